-- Which paths a name may mean in a scope (ACPI 6.5, 5.3).
use Rattle.std.specs.Prelude.{ℕ, zero, suc, Bool, not, ◌&&◌, ◌==◌, cond, List, [], ◌∷◌, ◌++◌, length, take, Option}
use Rattle.std.specs.Prelude.{Some, None, ◌≡◌, nat_le, false, option_to_list}
use Rattle.aml_names.specs.declared.segments.Seg.{Seg}
use Rattle.aml_names.specs.declared.names.Name.{Name}
use Rattle.std.specs.FinSet as set
use Rattle.aml_names.specs.Names.{placed}
use Rattle.aml_names.specs.Paths.{PathSet}

-- one segment without prefix, in any spelling: such a name is searched upward
abbrev pub is_single : Name → Bool
is_single name = not name.root && ((name.ups == 0) && (length name.segs == 1))

-- the greatest number up to another that passes a test
abbrev pub greatest : (ℕ → Bool) → ℕ → Option ℕ
greatest passes zero = cond (passes 0) (Some 0) None
greatest passes (suc n) = cond (passes (suc n)) (Some (suc n)) (greatest passes n)

-- how many segments of a scope stand before a segment in the nearest of some paths that are the segment in the scope
-- or in a parent of it
abbrev pub nearest : PathSet → List Seg → List Seg → Option ℕ
nearest paths scope segment = greatest (λ d. set.contains paths (take d scope ++ segment)) (length scope)

-- the segment in the first n segments of a scope, and in each parent of these up to the root
abbrev pub upward : ℕ → List Seg → List Seg → List (List Seg)
upward zero scope segment = segment ∷ []
upward (suc n) scope segment = (take (suc n) scope ++ segment) ∷ upward n scope segment

-- the paths that a name may mean in a scope, the nearest first: any name but a single segment has one, or none above
-- the root
abbrev pub candidates : List Seg → Name → List (List Seg)
candidates scope n = cond (is_single n) (upward (length scope) scope n.segs) (option_to_list (placed scope n))

-- ---- A stepping stone of the proofs: the last segments of some paths.

-- what is known of the paths that end in a segment: there are none, or the nearest in a scope
abbrev pub IsKnown : PathSet → List Seg → Seg → Option (Option ℕ) → Type 0
IsKnown paths scope end None = (front : List Seg) → set.contains paths (front ++ end ∷ []) ≡ false
IsKnown paths scope end (Some depth) = depth ≡ nearest paths scope (end ∷ [])

abbrev pub KnowEnds : PathSet → List Seg → (Seg → Option (Option ℕ)) → Type 0
KnowEnds paths scope known = (end : Seg) → IsKnown paths scope end (known end)

-- the greater of two depths
abbrev pub deeper : Option ℕ → Option ℕ → Option ℕ
deeper None known = known
deeper (Some depth) None = Some depth
deeper (Some depth) (Some known) = Some (cond (nat_le depth known) known depth)
