-- What tables load to: the terms that their AML reads as, and one list of entries (ACPI 6.5, 5.2.11, 5.3, 20.2.5.1 and
-- 20.2.5.2).
use Rattle.std.specs.Prelude.{◌≡◌, ◌≤◌, ℕ, suc, ◌+◌, ◌-◌, Bool, true, false, not, ◌&&◌, ◌||◌, cond, List, [], ◌∷◌, ◌++◌}
use Rattle.std.specs.Prelude.{length, map, Option, Some, None, is_some, ◌%◌, take}
use Rattle.std.specs.Option.{option_or, unwrap_or, option_map}
use Rattle.aml_names.specs.declared.segments.Seg.{Seg}
use Rattle.aml_names.specs.declared.names.Name.{Name}
use Rattle.aml_names.specs.Names.{placed}
use Rattle.aml_code.specs.declared.rows.Position.{Position}
use Rattle.aml_code.specs.declared.rows.Role.{Role}
use Rattle.aml_code.specs.Faults.{Arities}
use Rattle.aml_code.specs.Lawful.{last_label, field_names, setting_of, IsLawful, ReadsModule, ReadsStep, next_position}
use Rattle.aml_code.specs.Tree.{Tree, op, Trees, no_trees, tree_more, Parts, no_parts, part_more, label, byte, Tail}
use Rattle.aml_code.specs.Tree.{terms, body}
use Rattle.aml_parse.specs.Running.{is_block}
use Rattle.aml_namespace.specs.Namespace.{Entry, external, given, declared_at, namespace_of, found, declares, kind_at}
use Rattle.aml_namespace.specs.Namespace.{target_by}
use Rattle.aml_namespace.specs.Runs.{outlook_of, scope_in, agreed_arity, sure_at, open_in, agreed_path}
use Rattle.std.specs.List.{filter_map, list_all}
use Rattle.aml_code.specs.declared.rows.Group.{Group}
use Rattle.aml_code.specs.declared.rows.Object.{Object}
use Rattle.aml_code.specs.Opcodes.{row_of}
use Rattle.aml_namespace.specs.Kinds.{Kind}
use Rattle.aml_set.specs.Methods.{Method}
use Rattle.std.specs.FinSet as set
use Rattle.aml_code.specs.declared.rows.Position.TheVariants as positions
use Rattle.aml_code.specs.declared.rows.Role.TheVariants as roles
use Rattle.aml_namespace.specs.declared.kinds.Kind.TheVariants as kinds
use Rattle.aml_code.specs.declared.rows.Group.TheVariants as groups
use Rattle.aml_code.specs.declared.rows.Object.TheVariants as objects

-- ---- Where a term stands.

-- The table, by its place in load order, and the scope; whether the code outside methods may run; and whether what the
-- term declares is declared in every run of it. Where that code may not run, everything is.
pub record Where : Type 0 where
  pub table : ℕ
  pub scope : List Seg
  pub any_run : Bool
  pub sure : Bool

-- ---- The role of a term, and which terms are declarations.

-- the role of an opcode; an opcode that has no row does nothing
unfoldable pub role_of : ℕ → Role
role_of opcode = unwrap_or (option_map (λ r. r.role) (row_of opcode)) roles.Other

-- the kind of what such a role declares
abbrev pub kind_of : Object → Kind
kind_of objects.Name = kinds.Name
kind_of objects.Mutex = kinds.Mutex
kind_of objects.Event = kinds.Event
kind_of objects.Region = kinds.Region
kind_of objects.DataRegion = kinds.DataRegion
kind_of objects.BufferField = kinds.BufferField
kind_of objects.Device = kinds.Device
kind_of objects.Processor = kinds.Processor
kind_of objects.PowerResource = kinds.PowerResource
kind_of objects.ThermalZone = kinds.ThermalZone

-- whether a group is that of declarations
abbrev pub declares_by : Group → Bool
declares_by groups.Declaration = true
declares_by _ = false

-- whether a term is a declaration
abbrev pub in_declaration : Tree → Bool
in_declaration (op o w ps r) = unwrap_or (option_map (λ row. declares_by row.group) (row_of o)) false
in_declaration _ = false

-- ---- The entries of a term.

-- the path above a path: its segments but the last
abbrev pub parent_of : List Seg → List Seg
parent_of p = take (length p - 1) p

-- Whether what is declared at a site is declared in every run, if these paths have a kind in every run so far. Where
-- the code outside methods may not run, everything is.
abbrev pub sure_with : Where → List Entry → List (List Seg) → Bool
sure_with site es ps = site.sure && (not site.any_run || list_all (sure_at es) ps)

-- whether a path is declared there in every run: an interpreter passes over a declaration of which the path above isn't
-- there
abbrev pub sure_here : Where → List Entry → List Seg → Bool
sure_here site es p = sure_with site es (parent_of p ∷ [])

-- the entry of a path without a body, at a site
abbrev pub plain_entry : Where → List Entry → Kind → List Seg → Entry
plain_entry site es kind p = declares p kind None (sure_here site es p)

-- the entry of a method: bits 0 to 2 of its flags are its number of arguments
abbrev pub method_entry : Where → List Entry → ℕ → ℕ × ℕ → List Seg → Entry
method_entry site es flags span p = declares p (kinds.Method (flags % 8))
    (Some (record { table = site.table; start = span.0; len = span.1; flags = flags })) (sure_here site es p)

-- what a name leads to at a site, among the entries so far; where the code outside methods may run, in every run
abbrev pub leads : Where → List Entry → Name → Option (List Seg)
leads site es =
    cond site.any_run (agreed_path (outlook_of es) site.scope) (found (namespace_of es) set.empty site.scope)

-- the entry of an Alias of a source. It is sure only where the source and the path above the Alias have a kind in every
-- run.
abbrev pub alias_entry : Where → List Entry → List Seg → List Seg → Entry
alias_entry site es source p = declares p
    (kinds.Alias (open_in (outlook_of es) source) (target_by (kind_at (namespace_of es) source) source)) None
    (sure_with site es (parent_of p ∷ source ∷ []))

-- ---- What a term declares itself.

-- One entry more, of the path of a name. Something may declare it already only where the code outside methods may run.
abbrev pub Adds : Where → List Entry → Name → (List Seg → Entry) → List Entry → Type 0
Adds site es n entry fs = (p : List Seg) × (placed site.scope n ≡ Some p)
    × (site.any_run ≡ false → declared_at es p ≡ None) × (fs ≡ es ++ entry p ∷ [])

-- the named units of a field list (20.2.5.2), each under its segment in the scope; the region isn't looked for
abbrev pub AddsUnits : Where → List Entry → List Name → List Entry → Type 0
AddsUnits site es [] fs = es ≡ fs
AddsUnits site es (n ∷ ns) fs =
    (ms : List Entry) × Adds site es n (plain_entry site es kinds.Field) ms × AddsUnits site ms ns fs

-- The path that a Scope opens: the one to which its name leads. Where the code outside methods may run, the path where
-- its name is placed, if no candidate is declared, predefined or named by an External.
abbrev pub opened : Where → List Entry → Name → Option (List Seg)
opened site es n = option_or (leads site es n)
    (cond (site.any_run && not (is_some (found (namespace_of es) set.empty site.scope n))) (placed site.scope n) None)

-- Where the terms inside an object stand, and those inside a Scope. An interpreter passes over what is inside an object
-- whose path is declared already, and inside a Scope of what is no scope: where the code outside methods may run, what
-- stands there isn't sure. Else nothing is asked of what a Scope opens, or of the path above a declaration.
abbrev pub in_object : Where → List Entry → List Seg → Where
in_object site es p = record site { scope = p; sure = sure_here site es p && not (is_some (declared_at es p)) }

abbrev pub in_scope : Where → List Entry → List Seg → Where
in_scope site es p = record site { scope = p; sure = site.sure && (not site.any_run || scope_in (outlook_of es) p) }

-- What a term does by its role at a site, from the entries in front of it to those behind it; and where the terms
-- inside it stand (`below`, at the path that the term declares or opens; free where none can stand there). What is
-- inside an If, an Else or a While is not sure, where the code outside methods may run. The object type of an External
-- (its first byte) is not looked at.
abbrev pub Does : Role → Where → List Entry → Parts → Tail → List Entry → Where → Type 0
Does (roles.Declares o) site es ps r fs below = (n : Name) × (last_label None ps ≡ Some n)
    × Adds site es n (plain_entry site es (kind_of o)) fs × (placed site.scope n ≡ Some below.scope)
    × (below ≡ in_object site es below.scope)
Does roles.Method site es (part_more (label n) (part_more (byte flags) no_parts)) (body start len) fs below =
    Adds site es n (method_entry site es flags (start, len)) fs
Does roles.Scope site es (part_more (label n) no_parts) r fs below =
    (opened site es n ≡ Some below.scope) × (es ≡ fs) × (below ≡ in_scope site es below.scope)
Does roles.Alias site es (part_more (label source) (part_more (label n) no_parts)) r fs below =
    (p : List Seg) × (leads site es source ≡ Some p) × Adds site es n (alias_entry site es p) fs
Does roles.External site es (part_more (label n) (part_more (byte _) (part_more (byte count) no_parts))) r fs below =
    (p : List Seg) × (placed site.scope n ≡ Some p) × (fs ≡ es ++ external p count ∷ [])
Does roles.Fields site es ps r fs below = AddsUnits site es (field_names r) fs
Does roles.Guard site es ps r fs below = (es ≡ fs) × (below ≡ record site { sure = not site.any_run && site.sure })
Does roles.Other site es ps r fs below = (es ≡ fs) × (below ≡ record site { sure = not site.any_run && site.sure })
Does _ site es ps r fs below = ⊥

-- what a term does: without an opcode nothing
abbrev pub DoesTerm : Where → List Entry → Tree → List Entry → Where → Type 0
DoesTerm site es (op o w ps r) fs below = Does (role_of o) site es ps r fs below
DoesTerm site es t fs below = es ≡ fs

-- ---- The methods among entries.

-- the method that an entry declares, if it does; and the methods of entries, in order
abbrev pub method_of : Entry → Option Method
method_of (declares p k (Some b) sure) =
    Some (record { path = p; table = b.table; start = b.start; len = b.len; flags = b.flags })
method_of _ = None

abbrev pub methods_of : List Entry → List Method
methods_of es = filter_map method_of es

-- ---- Terms, tables, and what they load to. `last` are the entries behind the last table, by which each name is asked
-- again. A name that leads nowhere, and has no given count, takes no arguments inside a declaration; elsewhere it is
-- refused, or takes none too (`unknown_zero`).

module _ (unknown_zero : Bool) (last : List Entry) (code : List ℕ) where
  -- The names in a term take as many arguments by the last entries as were read with them: it is lawful by these counts
  -- too. They were read with none, so that a name that takes some refuses the set. In a declaration an unknown name
  -- takes none.
  abbrev pub Agrees : Position → Where → Tree → Type 0
  Agrees p site t = IsLawful
      (setting_of (agreed_arity (outlook_of last) (unknown_zero || in_declaration t) site.scope) None code)
      512 p set.empty t

  -- From the entries in front of them to those behind them: terms at a site, and a term. Each agrees, without the terms
  -- inside it; one inside a guard as a term of the table, as which it may stand too.
  abbrev mutual
    pub TermsDeclare : Where → List Entry → Trees → List Entry → Type 0
    TermsDeclare site es no_trees fs = es ≡ fs
    TermsDeclare site es (tree_more t ts) fs =
        (ms : List Entry) × TermDeclares site es t ms × TermsDeclare site ms ts fs

    pub TermDeclares : Where → List Entry → Tree → List Entry → Type 0
    TermDeclares site es (op o w ps (terms ts)) fs = (ms : List Entry) × (below : Where)
        × Agrees positions.ModuleTerm site (op o w ps (terms no_trees))
        × Does (role_of o) site es ps (terms ts) ms below × TermsDeclare below ms ts fs
    TermDeclares site es (op o w ps r) fs =
        (below : Where) × Agrees positions.ModuleTerm site (op o w ps r) × Does (role_of o) site es ps r fs below
    TermDeclares site es t fs = es ≡ fs

  -- How many arguments names take in a term of a table whose code may run: as many as every run agrees on by the
  -- entries in front of it, with what the user gives, and none where a name is unknown, or its counts differ.
  abbrev pub counts_at : Where → List Entry → Arities
  counts_at site es locals n = Some (unwrap_or (agreed_arity (outlook_of es) false site.scope locals n) 0)

  abbrev mutual
    -- A table whose code may run is read from the left: the terms from an offset on to the end of a span, with at most
    -- so many levels, at a site, from entries to entries. Each is read as a step (`head`), with the counts that names
    -- have in front of it; `behind` is the offset behind it, `inner` the entries behind what it declares itself.
    pub TermsRead : ℕ → Position → ℕ → ℕ → Where → List Entry → Trees → List Entry → Type 0
    TermsRead levels p at end site es no_trees fs = (at ≡ end) × (es ≡ fs)
    TermsRead levels p at end site es (tree_more t ts) fs =
        (head : Tree) × (behind : ℕ) × (inner : List Entry) × (below : Where) × (ms : List Entry)
        × ReadsStep (counts_at site es) levels p code at end head behind
        × Agrees p site head × DoesTerm site es head inner below × TermReads levels head below inner t ms
        × TermsRead levels (next_position p head) behind end site ms ts fs

    -- The term of a step: the step itself, or, where terms stand inside it, with these in place of their span.
    pub TermReads : ℕ → Tree → Where → List Entry → Tree → List Entry → Type 0
    TermReads levels head below inner (op o w ps (terms ts)) fs =
        (start : ℕ) × (len : ℕ) × (head ≡ op o w ps (body start len)) × (is_block head ≡ true)
        × TermsRead (levels - 1) positions.RunTerm start (start + len) below inner ts fs
    TermReads levels head below inner t fs = (head ≡ t) × (is_block head ≡ false) × (inner ≡ fs)

-- The AML of table t reads as these terms, from the entries in front of it to those behind it: as a whole, and then its
-- terms declare; or, where the code outside methods may run, from the left.
abbrev pub TableLoads : Bool → Bool → List Entry → ℕ → List Entry → List ℕ → Trees → List Entry → Type 0
TableLoads false z last t es code ts fs = ReadsModule code ts
    × TermsDeclare z last code (record { table = t; scope = []; any_run = false; sure = true }) es ts fs
TableLoads true z last t es code ts fs = TermsRead z last code 512 positions.RunTerm 0 (length code)
    (record { table = t; scope = []; any_run = true; sure = true }) es ts fs

-- the tables from number t on, each from the root, one after the other
abbrev pub TablesLoad : Bool → Bool → List Entry → ℕ → List Entry → List (List ℕ) → List Trees → List Entry → Type 0
TablesLoad any_run z last t es [] [] fs = es ≡ fs
TablesLoad any_run z last t es (c ∷ cs) (ts ∷ rest) fs =
    (ms : List Entry) × TableLoads any_run z last t es c ts ms × TablesLoad any_run z last (suc t) ms cs rest fs
TablesLoad any_run z last t es _ _ fs = ⊥

-- The tables' AML reads as these trees, and these load to these entries, behind the counts that the user gives to
-- paths. A set has at most 1,048,576 methods.
pub record LoadsTo (any_run unknown_zero : Bool) (gs : List (List Seg × ℕ)) (tables : List (List ℕ))
    (trees : List Trees) (es : List Entry) : Type 0 where
  pub read : TablesLoad any_run unknown_zero es 0 (map (λ g. given g.0 g.1) gs) tables trees es
  pub few : length (methods_of es) ≤ 1048576
