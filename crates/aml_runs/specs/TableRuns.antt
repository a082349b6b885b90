-- The runs of tables (ACPI 6.5, 5.3, 20.2.1 and 20.2.5). An interpreter runs the code of a table outside methods once,
-- when it loads the table, term by term in the order of the text. Nobody knows what of an If, an Else or a While runs;
-- what stands in the namespace behind a table is told but for that.
use Rattle.std.specs.Prelude.{◌≡◌, ◌⊎◌, ℕ, ◌%◌, Bool, true, false, not, ◌||◌, if◌then◌else◌, List, [], ◌∷◌, ◌++◌}
use Rattle.std.specs.Prelude.{Option, Some, None, is_some, IsSome, IsSomeAnd, IsTrue}
use Rattle.std.specs.List.{find}
use Rattle.std.specs.Option.{option_and_then}
use Rattle.aml_names.specs.declared.segments.Seg.{Seg}
use Rattle.aml_names.specs.declared.names.Name.{Name}
use Rattle.aml_names.specs.Names.{placed}
use Rattle.aml_names.specs.Paths.{PathSet}
use Rattle.aml_names.specs.Searching.{candidates}
use Rattle.aml_code.specs.declared.rows.Role.{Role}
use Rattle.aml_code.specs.declared.rows.Role.TheVariants as roles
use Rattle.aml_code.specs.Lawful.{last_label, field_names}
use Rattle.aml_code.specs.Tree.{Tree, op, Trees, no_trees, tree_more, Parts, Tail, terms}
use Rattle.aml_namespace.specs.Kinds.{Kind}
use Rattle.aml_namespace.specs.declared.kinds.Kind.TheVariants as kinds
use Rattle.aml_namespace.specs.Namespace.{Entry, Givens, declares, declared_at, namespace_of, kind_at, decides}
use Rattle.aml_namespace.specs.Namespace.{arity_of}
use Rattle.aml_namespace.specs.Runs.{outlook_of, arity_by_kinds, opens_scope, IsRun, means}
use Rattle.aml_load.specs.Declaring.{byte_of, first_label, target_of}
use Rattle.aml_load.specs.Loading.{role_of, kind_of, parent_of, LoadsTo}

-- ---- What stands in a run so far: a list of declarations. All of them are there, and bodies play no part.

-- Whether a declaration of a path is passed over: where the path is declared already, or nothing stands at the path
-- above it.
abbrev pub is_passed : List Entry → List Seg → Bool
is_passed n p = is_some (declared_at n p) || not (is_some (kind_at (namespace_of n) (parent_of p)))

-- a path more, of a kind
abbrev pub with_path : List Entry → List Seg → Kind → List Entry
with_path n p k = n ++ declares p k None true ∷ []

-- behind a declaration of a path
abbrev pub gained : List Entry → List Seg → Kind → List Entry
gained n p k = if is_passed n p then n else with_path n p k

-- the same of the path of a name, which has none above the root
abbrev pub gained_at : List Entry → Option (List Seg) → Kind → List Entry
gained_at n None k = n
gained_at n (Some p) k = gained n p k

-- the path that a name declares in a scope
abbrev pub path_in : List Seg → Option Name → Option (List Seg)
path_in scope name = option_and_then (placed scope) name

-- the path that a name finds in a scope
abbrev pub found_in : List Entry → List Seg → Option Name → Option (List Seg)
found_in n scope name = option_and_then (means (namespace_of n) scope) name

-- behind the named units of a field list (20.2.5.2), each a declaration
abbrev pub units_gained : List Entry → List Seg → List Name → List Entry
units_gained n scope [] = n
units_gained n scope (name ∷ names) = units_gained (gained_at n (placed scope name) kinds.Field) scope names

-- Behind an Alias (20.2.5.1) of the path that its source finds: it stands for that path, or, where this is an Alias,
-- for what this one stands for. An Alias of nothing is passed over.
abbrev pub alias_gained : List Entry → Option (List Seg) → Option (List Seg) → List Entry
alias_gained n p None = n
alias_gained n p (Some q) = gained_at n p (kinds.Alias false (target_of n q))

-- ---- What a term does: what stands in front of it, and what may stand behind it.

-- How the terms inside a term run: all of them or only the first ones, in which scope, with what in front of them and
-- what behind them.
abbrev pub RunsInside : Type 1
RunsInside = Bool → List Seg → List Entry → List Entry → Type 0

-- A Device and its like are declared, and then all terms inside run under the path. With a declaration that is passed
-- over they are passed over too.
abbrev pub RunsObject : RunsInside → List Entry → Option (List Seg) → Kind → List Entry → Type 0
RunsObject inside n None k m = m ≡ n
RunsObject inside n (Some p) k m = (IsTrue (is_passed n p) × (m ≡ n))
    ⊎ (IsTrue (not (is_passed n p)) × inside true p (with_path n p k) m)

-- whether a Scope may open a path of this kind: also a Name, as its value is
abbrev pub may_open : Kind → Bool
may_open kinds.Name = true
may_open k = opens_scope k

-- The terms inside a Scope (20.2.5.1 and 19.6.122) all run under the path that it finds, if its kind is that of a
-- scope. Where it finds another kind, or nothing, they are passed over. Under a Name, of which the value isn't known,
-- they run or are passed over.
abbrev pub RunsScope : RunsInside → List Entry → Option (List Seg) → List Entry → Type 0
RunsScope inside n None m = m ≡ n
RunsScope inside n (Some q) m = IsSomeAnd (kind_at (namespace_of n) q) (λ k.
    (IsTrue (may_open k) × inside true q n m) ⊎ (IsTrue (not (opens_scope k)) × (m ≡ n)))

-- A term by its role. Of the terms inside an If, an Else or a While (20.2.5.3) the first ones run, in one round: none,
-- all, or those up to a Break; and those inside an Else whatever its If did. What declares nothing and has no terms
-- inside it leaves the namespace as it is.
abbrev pub RunsAs : Role → RunsInside → List Seg → List Entry → Parts → Tail → List Entry → Type 0
RunsAs (roles.Declares o) inside scope n ps r m = RunsObject inside n (path_in scope (last_label None ps)) (kind_of o) m
RunsAs roles.Method inside scope n ps r m =
    m ≡ gained_at n (path_in scope (last_label None ps)) (kinds.Method (byte_of ps % 8))
RunsAs roles.Scope inside scope n ps r m = RunsScope inside n (found_in n scope (last_label None ps)) m
RunsAs roles.Alias inside scope n ps r m =
    m ≡ alias_gained n (path_in scope (last_label None ps)) (found_in n scope (first_label ps))
RunsAs roles.External inside scope n ps r m = m ≡ n
RunsAs roles.Fields inside scope n ps r m = m ≡ units_gained n scope (field_names r)
RunsAs roles.Guard inside scope n ps r m = inside false scope n m
RunsAs roles.Other inside scope n ps r m = inside false scope n m

abbrev mutual
  -- a term in a scope
  pub Runs : List Seg → List Entry → Tree → List Entry → Type 0
  Runs scope n (op o w ps r) m = RunsAs (role_of o) (λ whole p k l. RunTail whole p k r l) scope n ps r m
  Runs scope n _ m = m ≡ n

  -- the terms inside a term
  pub RunTail : Bool → List Seg → List Entry → Tail → List Entry → Type 0
  RunTail whole scope n (terms ts) m = RunTerms whole scope n ts m
  RunTail whole scope n _ m = m ≡ n

  -- terms, in the order of the text: all of them, or the first ones
  pub RunTerms : Bool → List Seg → List Entry → Trees → List Entry → Type 0
  RunTerms whole scope n no_trees m = m ≡ n
  RunTerms whole scope n (tree_more t ts) m = ((whole ≡ false) × (m ≡ n))
      ⊎ ((k : List Entry) × Runs scope n t k × RunTerms whole scope k ts m)

-- tables, one after the other, each from the root
abbrev pub RunTables : List Entry → List Trees → List Entry → Type 0
RunTables n [] m = m ≡ n
RunTables n (ts ∷ rest) m = (k : List Entry) × RunTerms true [] n ts k × RunTables k rest m

-- what may stand behind these tables, of which nothing stands in front
abbrev pub IsRunOf : List Trees → List Entry → Type 0
IsRunOf trees n = RunTables [] trees n

-- ---- The law of runs.

-- A list declares what a selection of these entries does: of all that are sure and any of the others, an open Alias
-- with any target.
pub record IsSelection (es n : List Entry) : Type 0 where
  pub kept : List Entry
  pub run : IsRun es kept
  pub same : namespace_of n ≡ namespace_of kept

-- each run of tables is a selection of the entries to which they load
abbrev pub RunsAreSelections : Bool → Givens → List (List ℕ) → Type 0
RunsAreSelections unknown_zero gs tables = (trees : List Trees) (es : List Entry) →
    LoadsTo true unknown_zero gs tables trees es → (n : List Entry) → IsRunOf trees n → IsSelection es n

-- in a run a name finds one of the locals, or a path at which something stands
abbrev pub FindsIn : List Entry → PathSet → List Seg → Name → Type 0
FindsIn n locals scope name = IsSome (find (decides (namespace_of n) locals) (candidates scope name))

-- Where the kinds that a name may mean agree on a count, the name has that count in every run of the tables in which it
-- finds anything.
abbrev pub EveryRunOfTablesAgrees : Bool → Givens → List (List ℕ) → Type 0
EveryRunOfTablesAgrees unknown_zero gs tables = (trees : List Trees) (es : List Entry) →
    LoadsTo true unknown_zero gs tables trees es → (n : List Entry) → IsRunOf trees n →
    (zero_too : Bool) (scope : List Seg) (locals : PathSet) (name : Name) →
    IsSome (arity_by_kinds (outlook_of es) scope locals name) → FindsIn n locals scope name →
    arity_of (namespace_of n) zero_too scope locals name ≡ arity_by_kinds (outlook_of es) scope locals name
