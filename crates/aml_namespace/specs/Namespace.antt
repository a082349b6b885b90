-- What tables declare, and what the user says: one list of entries, in load and text order.
use Rattle.std.specs.Prelude.{ℕ, max, Bool, cond, List, [], ◌∷◌, Option, Some, None, ◌||◌, is_some, map}
use Rattle.std.specs.Ordering.{eq_by_cmp}
use Rattle.aml_names.specs.declared.segments.Seg.{Seg}
use Rattle.aml_names.specs.Paths.{path_cmp, PathSet}
use Rattle.aml_namespace.specs.Kinds.{Kind}
use Rattle.std.specs.List.{find}
use Rattle.std.specs.Option.{option_or, unwrap_or}
use Rattle.std.specs.FinSet as set
use Rattle.aml_names.specs.declared.names.Name.{Name}
use Rattle.aml_names.specs.Searching.{candidates}
use Rattle.aml_namespace.specs.declared.kinds.Kind.TheVariants.{Method, Alias}
use Rattle.aml_namespace.specs.Predefined.{predefined}

-- where the body of a method stands: its table, by the place in load order, its span in the AML of that table, and the
-- method's flags byte
pub record Body : Type 0 where
  pub table : ℕ
  pub start : ℕ
  pub len : ℕ
  pub flags : ℕ

-- A declaration of a path with its kind, a method's with its body, and whether it is sure: whether it stands whatever a
-- run of the code outside methods does. Or an External, which names a path and says how many arguments it takes
-- (ACPI 6.5, 20.2.5.2); or a count that the user gives to a path, which declares nothing.
pub data Entry : Type 0 where
  declares : List Seg → Kind → Option Body → Bool → Entry
  external : List Seg → ℕ → Entry
  given : List Seg → ℕ → Entry

-- paths with the counts that the user gives them, and their entries
abbrev pub Givens : Type 0
Givens = List (List Seg × ℕ)

abbrev pub given_entries : Givens → List Entry
given_entries gs = map (λ g. given g.0 g.1) gs

-- whether two paths are the same
abbrev pub same_path : List Seg → List Seg → Bool
same_path = eq_by_cmp path_cmp

-- the kind with which a path is declared first
abbrev pub declared_at : List Entry → List Seg → Option Kind
declared_at [] q = None
declared_at (declares p k b sure ∷ es) q = cond (same_path q p) (Some k) (declared_at es q)
declared_at (_ ∷ es) q = declared_at es q

-- the greatest count of a path's Externals
abbrev pub outs_at : List Entry → List Seg → Option ℕ
outs_at [] q = None
outs_at (external p n ∷ es) q = cond (same_path q p) (Some (max n (unwrap_or (outs_at es q) 0))) (outs_at es q)
outs_at (_ ∷ es) q = outs_at es q

-- the greatest count that the user gives to a path
abbrev pub given_at : List Entry → List Seg → Option ℕ
given_at [] q = None
given_at (given p n ∷ es) q = cond (same_path q p) (Some (max n (unwrap_or (given_at es q) 0))) (given_at es q)
given_at (_ ∷ es) q = given_at es q

-- ---- Where a name leads, and how many arguments it takes (ACPI 6.5, 5.3).

-- what the tables say of each path: the kind with which it is declared, and the greatest count of its Externals; and
-- the greatest count that the user gives it
pub record Namespace : Type 0 where
  pub declared : List Seg → Option Kind
  pub outs : List Seg → Option ℕ
  pub givens : List Seg → Option ℕ

-- the namespace of a list of entries
abbrev pub namespace_of : List Entry → Namespace
namespace_of es = record { declared = declared_at es; outs = outs_at es; givens = given_at es }

-- the kind of a path: the declared one, else the predefined one
abbrev pub kind_at : Namespace → List Seg → Option Kind
kind_at n p = option_or (n.declared p) (predefined p)

-- the first path that is one of the locals or has a kind, else the first that an External names
abbrev pub first_of : Namespace → PathSet → List (List Seg) → Option (List Seg)
first_of n locals paths = option_or
    (find (λ p. set.contains locals p || is_some (kind_at n p)) paths) (find (λ p. is_some (n.outs p)) paths)

-- The path that a name means in a scope. A path is its segments alone: no Alias in it is followed, and a Scope of an
-- Alias opens the Alias's own path.
abbrev pub found : Namespace → PathSet → List Seg → Name → Option (List Seg)
found n locals scope name = first_of n locals (candidates scope name)

-- what an Alias of a path stands for: the path, or that path's own target if it is an Alias
abbrev pub target_by : Option Kind → List Seg → List Seg
target_by (Some (Alias is_open q)) p = q
target_by _ p = p

-- the count of what stands at the target of an Alias: a method's; 0 for another kind, an Alias too; without a kind that
-- of its Externals, or 0
abbrev pub target_count : Option Kind → Option ℕ → ℕ
target_count None out = unwrap_or out 0
target_count (Some (Method args)) out = args
target_count (Some _) out = 0

-- the count of a path by its kind: only a method takes arguments, and an Alias of one; without a kind that of its
-- Externals
abbrev pub count_of_kind : Namespace → Option Kind → Option ℕ → Option ℕ
count_of_kind n None out = out
count_of_kind n (Some (Method args)) out = Some args
count_of_kind n (Some (Alias is_open target)) out = Some (target_count (kind_at n target) (n.outs target))
count_of_kind n (Some _) out = Some 0

-- the count of the first of these paths that has one
abbrev pub first_count : (List Seg → Option ℕ) → List (List Seg) → Option ℕ
first_count count [] = None
first_count count (p ∷ paths) = option_or (count p) (first_count count paths)

-- The count of a name that may mean some paths, and leads to one or nowhere. Where it leads nowhere: the given count,
-- else 0 if unknown names count so, else none is known. Where it leads to one of the locals: 0. Else by the path's kind
-- and its Externals.
abbrev pub arity_at : Namespace → Bool → PathSet → List (List Seg) → Option (List Seg) → Option ℕ
arity_at n z locals paths None = option_or (first_count n.givens paths) (cond z (Some 0) None)
arity_at n z locals paths (Some p) = cond (set.contains locals p) (Some 0) (count_of_kind n (kind_at n p) (n.outs p))

-- how many arguments a name takes in a scope, by the path that it means
abbrev pub arity_of : Namespace → Bool → List Seg → PathSet → Name → Option ℕ
arity_of n z scope locals name = arity_at n z locals (candidates scope name) (found n locals scope name)

-- ---- Parts of these, as the code asks them.

-- the greater of a count and one that may be missing
abbrev pub greater : ℕ → Option ℕ → ℕ
greater n o = max n (unwrap_or o 0)

-- whether a path is one of the locals or has a kind
abbrev pub decides : Namespace → PathSet → List Seg → Bool
decides n locals p = set.contains locals p || is_some (kind_at n p)

-- whether an External names a path
abbrev pub is_outside : Namespace → List Seg → Bool
is_outside n p = is_some (n.outs p)

-- how many arguments a path takes
abbrev pub count_at : Namespace → List Seg → Option ℕ
count_at n p = count_of_kind n (kind_at n p) (n.outs p)
