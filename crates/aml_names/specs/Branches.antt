-- A stepping stone of the proofs: paths by where they branch off a scope, so that what they have in common with it
-- isn't kept with each.
use Rattle.std.specs.Prelude.{◌≡◌, ℕ, ◌≤◌, ◌-◌, List, [], ◌∷◌, ◌++◌, take, length, slice_get, Option, Some, None, refl}
use Rattle.std.specs.Prelude.{Bool, true, false}
use Rattle.std.specs.Option.{option_map, unwrap_or}
use Rattle.std.specs.Coded.{Coded, code_by, coded×}
use Rattle.std.specs.declared.cmp.Ordering.{Ordering}
use Rattle.std.specs.Ordering.{nat_cmp, ordering_then, eq_by_cmp}
use Rattle.std.specs.List.{list_any}
use Rattle.std.specs.BTreeMap.{is_at}
use Rattle.std.specs.FinSet as set
use Rattle.aml_names.specs.declared.segments.Seg.{Seg}
use Rattle.aml_names.specs.declared.names.Name.{Name}
use Rattle.aml_names.specs.Names.{placed}
use Rattle.aml_names.specs.Paths.{PathSet, seg_cmp, path_cmp, coded_path}

-- so many segments of a scope, and others behind them
abbrev pub whole : List Seg → ℕ × List Seg → List Seg
whole scope b = take b.0 scope ++ b.1

-- whether a scope has a segment at a depth
abbrev pub goes_on : List Seg → ℕ → Seg → Bool
goes_on scope depth s = unwrap_or (option_map (λ next. eq_by_cmp seg_cmp next s) (slice_get scope depth)) false

-- the scope goes on in another way there, if it goes on
pub record IsBranch (scope : List Seg) (b : ℕ × List Seg) : Type 0 where
  pub within : b.0 ≤ length scope
  pub apart : (s : Seg) (q : List Seg) → b.1 ≡ s ∷ q → slice_get scope b.0 ≡ Some s → ⊥

abbrev pub branch_cmp : ℕ × List Seg → ℕ × List Seg → Ordering
branch_cmp a b = ordering_then (nat_cmp a.0 b.0) (path_cmp a.1 b.1)

-- how many segments of the scope stand before the last one of the path, if these begin the path
abbrev pub end_depth : ℕ × List Seg → Option ℕ
end_depth (d, []) = Some (d - 1)
end_depth (d, s ∷ []) = Some d
end_depth (d, s ∷ t ∷ q) = None

-- each of these is a branch
abbrev pub AreBranches : List Seg → List (ℕ × List Seg) → Type 0
AreBranches scope bs = (b : ℕ × List Seg) → list_any (is_at (branch_cmp b)) bs ≡ true → IsBranch scope b

-- The path of a declared name is added, placed from a scope. One that leads above the root adds nothing, nor does any
-- without a scope.
abbrev pub with_placed : PathSet → Option (List Seg) → PathSet
with_placed ls None = ls
with_placed ls (Some p) = set.insert ls p

abbrev pub with_declared_name : Option (List Seg) → PathSet → Name → PathSet
with_declared_name None ls n = ls
with_declared_name (Some scope) ls n = with_placed ls (placed scope n)

-- a scope, and the paths that are kept by where they branch off it
pub record Branched : Type 0 where
  pub scope : List Seg
  pub paths : PathSet

abbrev pub coded_branched : Coded Branched
coded_branched = code_by (List Seg × PathSet) (coded× coded_path (set.code coded_path)) (λ b. (b.scope, b.paths))
    (λ p. record { scope = p.0; paths = p.1 }) (λ _. refl)
