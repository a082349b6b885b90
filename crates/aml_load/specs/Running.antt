-- A stepping stone: what the terms of tables declare, one after the other, whether the code outside methods may run or
-- may not, and the fault at which a load stops, as `Loading` says it without faults (ACPI 6.5, 5.3, 20.2.1 and 20.2.5).
use Rattle.std.specs.Prelude.{ℕ, suc, Bool, true, false, not, ◌&&◌, ◌||◌, cond, List, [], ◌∷◌, Option}
use Rattle.std.specs.Prelude.{Some, None, Result, Ok, Err, is_some}
use Rattle.std.specs.Option.{unwrap_or, option_and_then}
use Rattle.std.specs.FinSet as set
use Rattle.aml_names.specs.declared.segments.Seg.{Seg}
use Rattle.aml_names.specs.declared.names.Name.{Name}
use Rattle.aml_code.specs.declared.rows.Role.{Role}
use Rattle.aml_code.specs.declared.rows.Role.TheVariants as roles
use Rattle.aml_code.specs.Faults.{Arities}
use Rattle.aml_code.specs.Lawful.{last_label, field_names}
use Rattle.aml_code.specs.Tree.{Tree, op, Trees, no_trees, tree_more, Parts, Tail, terms}
use Rattle.aml_parse.specs.Running.{Names}
use Rattle.aml_space.specs.declared.faults.SpaceFault.TheVariants as faults
use Rattle.aml_namespace.specs.Kinds.{Kind}
use Rattle.aml_namespace.specs.Namespace.{Entry, namespace_of, found}
use Rattle.aml_namespace.specs.Runs.{outlook_of, agreed_arity}
use Rattle.aml_load.specs.declared.faults.LoadFault.{LoadFault}
use Rattle.aml_load.specs.declared.faults.LoadFault.TheVariants as loads
use Rattle.aml_load.specs.Declaring.{◌>>=◌, Listed, with_uses, lead_of, place_at, entry_at, code_fault, byte_of}
use Rattle.aml_load.specs.Declaring.{first_label, body_span, method_at, alias_at, external_at, units_at}
use Rattle.aml_load.specs.Loading.{role_of, kind_of, Where, plain_entry, in_object, in_scope}

-- What stands in front of a term: what is listed so far, and where the term stands.
pub record Front : Type 0 where
  pub listed : Listed
  pub site : Where

-- in front of the first term of table t
abbrev pub table_front : Bool → ℕ → Listed → Front
table_front any_run t l = record { listed = l; site = record { table = t; scope = []; any_run = any_run; sure = true } }

-- How many arguments a name takes in a term: as many as every run agrees on by what is listed in front of it, with what
-- the user gives, and none where nothing tells it.
abbrev pub counts_in : Front → Arities
counts_in f locals n =
    Some (unwrap_or (agreed_arity (outlook_of f.listed.entries) false f.site.scope locals n) 0)

-- ---- What a term declares: what stands in front of the terms inside it, or the fault at which the load stops.

-- the names of a term more
abbrev pub asked : Front → Tree → Front
asked f t = record f { listed = with_uses f.site f.listed t }

-- inside a term that may not run
abbrev pub in_block : Front → Front
in_block f = record f { site = record f.site { sure = not f.site.any_run && f.site.sure } }

-- this is listed then
abbrev pub listing : Front → Result Listed LoadFault → Result Front LoadFault
listing f step = do
  m ← step
  Ok (record f { listed = m })

-- The path that a Scope opens: the one to which its name leads; its own where nothing at all is there, and the code
-- outside methods may run; and else none.
abbrev pub opened_by : ℕ → List Seg → Bool → Option (List Seg) → Result (List Seg) LoadFault
opened_by t p known (Some q) = Ok q
opened_by t p true None = Err (loads.Space t (faults.ScopeMissing p))
opened_by t p false None = Ok p

unfoldable pub opened_at : Where → List Entry → Option Name → Result (List Seg) LoadFault
opened_at site es n = do
  p ← place_at site n
  opened_by site.table p
      (not site.any_run || is_some (option_and_then (found (namespace_of es) set.empty site.scope) n)) (lead_of site es n)

-- an object: its path is declared, and opened
unfoldable pub object_at : Front → Option Name → Kind → Result Front LoadFault
object_at f n kind = do
  p ← place_at f.site n
  m ← entry_at f.site f.listed p (plain_entry f.site f.listed.entries kind p)
  Ok (record { listed = m; site = in_object f.site f.listed.entries p })

-- a Scope
unfoldable pub scope_at : Front → Option Name → Result Front LoadFault
scope_at f n = do
  p ← opened_at f.site f.listed.entries n
  Ok (record f { site = in_scope f.site f.listed.entries p })

-- what a term declares inside which no terms stand
unfoldable pub flat_at : Role → Where → Listed → Parts → Tail → Result Listed LoadFault
flat_at roles.Method site l ps r = method_at site l (last_label None ps) (byte_of ps) (body_span r)
flat_at roles.Alias site l ps r = alias_at site l (first_label ps) (last_label None ps)
flat_at roles.External site l ps r = external_at site l (last_label None ps) (byte_of ps)
flat_at roles.Fields site l ps r = units_at site l (field_names r)
flat_at role site l ps r = Ok l

-- What a term does by its role. A Device and its like declare their path and open it; a Scope opens a path; If, Else and
-- While may not run.
unfoldable pub enter_as : Role → Front → Parts → Tail → Result Front LoadFault
enter_as (roles.Declares o) f ps r = object_at f (last_label None ps) (kind_of o)
enter_as roles.Scope f ps r = scope_at f (last_label None ps)
enter_as roles.Guard f ps r = Ok (in_block f)
enter_as roles.Other f ps r = Ok (in_block f)
enter_as role f ps r = listing f (flat_at role f.site f.listed ps r)

-- A term: the names in it, and then what it does by its role. Where the code outside methods may not run, one without an
-- opcode asks nothing.
unfoldable pub entered_at : Front → Tree → Result Front LoadFault
entered_at f (op o w ps r) = enter_as (role_of o) (asked f (op o w ps r)) ps r
entered_at f t = Ok (cond f.site.any_run (asked f t) f)

-- ---- What terms declare, one after the other.

unfoldable mutual
  -- what stands behind a term: what it declares itself, and then what the terms inside it do
  pub behind_tree : Front → Tree → Result Front LoadFault
  behind_tree f (op o w ps r) = do
    inner ← entered_at f (op o w ps r)
    ended ← behind_inside inner r
    Ok (record f { listed = ended.listed })
  behind_tree f t = entered_at f t

  pub behind_inside : Front → Tail → Result Front LoadFault
  behind_inside f (terms ts) = behind_trees f ts
  behind_inside f _ = Ok f

  -- terms, in the order of the text
  pub behind_trees : Front → Trees → Result Front LoadFault
  behind_trees f no_trees = Ok f
  behind_trees f (tree_more t ts) = do
    g ← behind_tree f t
    behind_trees g ts

-- table t, from the root
abbrev pub behind_table : Bool → ℕ → Listed → Trees → Result Listed LoadFault
behind_table any_run t l ts = do
  f ← behind_trees (table_front any_run t l) ts
  Ok f.listed

-- the tables from number t on
unfoldable pub behind_tables : Bool → ℕ → Listed → List Trees → Result Listed LoadFault
behind_tables any_run t l [] = Ok l
behind_tables any_run t l (ts ∷ rest) = do
  k ← behind_table any_run t l ts
  behind_tables any_run (suc t) k rest

-- ---- The namespace as the reading of a table asks it, whose code outside methods may run.

-- The namespace as the reading of table t asks it. Behind a term stands what is listed then, where the term stood.
abbrev pub run_names : ℕ → Names Front LoadFault
run_names t = record {
  arity = counts_in;
  inside = entered_at;
  behind = λ f g. record f { listed = g.listed };
  unread = code_fault t;
}
