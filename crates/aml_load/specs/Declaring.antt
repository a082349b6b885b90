-- A stepping stone: the names that are asked in terms, the steps by which a term declares, and the fault at which each
-- stops (ACPI 6.5, 5.2.11, 5.3, 20.2.5.1 and 20.2.5.2), as `Loading` says it without faults. What faults are goes by it.
use Rattle.std.specs.Prelude.{ℕ, Option, Some, None, Bool, true, false, List, [], ◌∷◌, ◌++◌, ◌≡◌, length}
use Rattle.std.specs.Prelude.{Result, Ok, Err, is_some, nat_le, if◌then◌else◌, cond, not, ◌&&◌, ◌||◌, nat_eq}
use Rattle.std.specs.Option.{unwrap_or, option_map, option_and_then, option_eq, ok_or}
use Rattle.std.specs.FinSet as set
use Rattle.aml_names.specs.declared.faults.CodeFault.{CodeFault}
use Rattle.aml_names.specs.declared.faults.CodeFault.TheVariants as codes
use Rattle.aml_names.specs.declared.segments.Seg.{Seg}
use Rattle.aml_names.specs.declared.names.Name.{Name}
use Rattle.aml_names.specs.Names.{placed}
use Rattle.aml_code.specs.declared.rows.PartKind.{PartKind}
use Rattle.aml_code.specs.declared.rows.PartKind.TheVariants as part_kinds
use Rattle.aml_code.specs.Faults.{StandsAt}
use Rattle.aml_code.specs.Lawful.{last_byte, no_arguments, ReadsModule}
use Rattle.aml_code.specs.Opcodes.{row_of}
use Rattle.aml_code.specs.Tree.{Tree, nothing, named, op, Trees, no_trees, tree_more, Part, child, Parts}
use Rattle.aml_code.specs.Tree.{part_more, Tail, elements, fields, Field, connection, Fields, no_fields, field_more}
use Rattle.aml_code.specs.Tree.{buffer, label, body, tree_count}
use Rattle.aml_space.specs.declared.faults.SpaceFault.{SpaceFault}
use Rattle.aml_space.specs.declared.faults.SpaceFault.TheVariants as faults
use Rattle.aml_namespace.specs.declared.kinds.Kind.TheVariants as kinds
use Rattle.aml_namespace.specs.Namespace.{Entry, Givens, external, given_entries, declared_at, namespace_of, kind_at}
use Rattle.aml_namespace.specs.Namespace.{target_by}
use Rattle.aml_namespace.specs.Runs.{outlook_of, agreed_arity}
use Rattle.aml_load.specs.declared.faults.LoadFault.{LoadFault}
use Rattle.aml_load.specs.declared.faults.LoadFault.TheVariants as loads
use Rattle.aml_load.specs.Loading.{Where, in_declaration, plain_entry, method_entry, leads}
use Rattle.aml_load.specs.Loading.{alias_entry, methods_of}

-- ---- The names that stand as TermArgs in a term of a table, or as a term, outside the terms inside it, each with the
-- number of arguments that was read with it (ACPI 6.5, 20.2.5).

-- whether a part of this kind is a TermArg
abbrev pub is_argument : PartKind → Bool
is_argument part_kinds.Term = true
is_argument _ = false

-- the kinds of the parts of an opcode
abbrev pub kinds_in : ℕ → List PartKind
kinds_in opcode = unwrap_or (option_map (λ r. r.parts) (row_of opcode)) []

-- A name that stands as a TermArg outside the methods, or as a term there: its table, the scope in which it stands,
-- with how many arguments it was read, and whether the term around it is a declaration.
pub record Use : Type 0 where
  pub table : ℕ
  pub scope : List Seg
  pub name : Name
  pub args : ℕ
  pub declaring : Bool

-- a name at a site, with so many arguments, in a declaration or not
abbrev pub use_of : Where → Bool → Name → ℕ → Use
use_of site declaring n args =
    record { table = site.table; scope = site.scope; name = n; args = args; declaring = declaring }

-- The names in a tree, in the order of the text. It is said what a use of a name is, and whether the tree itself is a
-- TermArg or a term.
abbrev mutual
  pub uses_in : (Name → ℕ → Use) → Bool → Tree → List Use
  uses_in ask argument nothing = []
  uses_in ask argument (named n ts) = cond argument (ask n (tree_count ts) ∷ []) [] ++ all_uses ask true ts
  uses_in ask argument (op o w ps r) = parts_uses ask (kinds_in o) ps ++ tail_uses ask r

  pub all_uses : (Name → ℕ → Use) → Bool → Trees → List Use
  all_uses ask argument no_trees = []
  all_uses ask argument (tree_more t ts) = uses_in ask argument t ++ all_uses ask argument ts

  pub parts_uses : (Name → ℕ → Use) → List PartKind → Parts → List Use
  parts_uses ask (k ∷ ks) (part_more p ps) = part_uses ask (is_argument k) p ++ parts_uses ask ks ps
  parts_uses ask _ _ = []

  pub part_uses : (Name → ℕ → Use) → Bool → Part → List Use
  part_uses ask argument (child t) = uses_in ask argument t
  part_uses ask argument _ = []

  pub tail_uses : (Name → ℕ → Use) → Tail → List Use
  tail_uses ask (elements ts) = all_uses ask false ts
  tail_uses ask (fields us) = fields_uses ask us
  tail_uses ask _ = []

  pub fields_uses : (Name → ℕ → Use) → Fields → List Use
  fields_uses ask no_fields = []
  fields_uses ask (field_more u us) = field_uses ask u ++ fields_uses ask us

  pub field_uses : (Name → ℕ → Use) → Field → List Use
  field_uses ask (connection (buffer t)) = uses_in ask false t
  field_uses ask _ = []

-- the names of a term at a site
abbrev pub term_uses : Where → Tree → List Use
term_uses site t = uses_in (use_of site (in_declaration t)) true t

-- ---- What is listed: one list of entries, in load order and in the order of the text, behind the counts that the user
-- gives.

-- The entries, and the names outside methods of which the number of arguments is compared once all entries are there.
pub record Listed : Type 0 where
  pub entries : List Entry
  pub uses : List Use

-- before any table: what the user gives
abbrev pub first_listed : Givens → Listed
first_listed gs = record { entries = given_entries gs; uses = [] }

-- one entry more
abbrev pub plus : Listed → Entry → Listed
plus l e = record { entries = l.entries ++ e ∷ []; uses = l.uses }

-- the names of a term more
abbrev pub with_uses : Where → Listed → Tree → Listed
with_uses site l t = record { entries = l.entries; uses = l.uses ++ term_uses site t }

-- the most methods that a set of tables may have
abbrev pub most_methods : ℕ
most_methods = 1048576

-- ---- Of a term: its names, its last byte, and the span of a method's body.

-- the first part, if it is a name: of an Alias, its source
abbrev pub first_label : Parts → Option Name
first_label (part_more (label n) ps) = Some n
first_label _ = None

-- the last byte: a method's flags, an External's number of arguments
abbrev pub byte_of : Parts → ℕ
byte_of ps = unwrap_or (last_byte None ps) 0

-- where a method's body begins, and its length
abbrev pub body_span : Tail → ℕ × ℕ
body_span (body start len) = (start, len)
body_span _ = (0, 0)

abbrev pub lead_of : Where → List Entry → Option Name → Option (List Seg)
lead_of site es n = option_and_then (leads site es) n

abbrev pub target_of : List Entry → List Seg → List Seg
target_of es p = target_by (kind_at (namespace_of es) p) p

-- ---- What a term declares: what is listed behind it, or the fault at which the load stops.

-- one step, and another over what it gave: the first fault is the fault of both
infixl 10 ◌>>=◌
abbrev pub ◌>>=◌ : {A B : Type 0} → Result A LoadFault → (A → Result B LoadFault) → Result B LoadFault
(Ok x) >>= f = f x
(Err e) >>= f = Err e

-- the path that a name has at a site, without a search, or the fault that its prefixes lead above the root
unfoldable pub place_at : Where → Option Name → Result (List Seg) LoadFault
place_at site n = ok_or (option_and_then (placed site.scope) n) (loads.Space site.table faults.AboveRoot)

-- the path that a name leads to at a site, as the entries stand there, or the fault that it leads nowhere
unfoldable pub lead_at : Where → List Entry → Option Name → (List Seg → SpaceFault) → Result (List Seg) LoadFault
lead_at site es n missing = do
  p ← place_at site n
  ok_or (lead_of site es n) (loads.Space site.table (missing p))

-- An entry more, which declares a path, or the fault that something declares it already. Where the code outside methods
-- may run, a path may be declared again.
unfoldable pub entry_at : Where → Listed → List Seg → Entry → Result Listed LoadFault
entry_at site l p x = if not site.any_run && is_some (declared_at l.entries p)
    then Err (loads.Space site.table (faults.Duplicate p)) else Ok (plus l x)

-- an entry of a name that is new at a site
unfoldable pub new_at : Where → Listed → Option Name → (List Seg → Entry) → Result Listed LoadFault
new_at site l n entry = do
  p ← place_at site n
  entry_at site l p (entry p)

-- a method, with its flags and the span of its body (20.2.5.2): the limit is met before its name
unfoldable pub method_at : Where → Listed → Option Name → ℕ → ℕ × ℕ → Result Listed LoadFault
method_at site l n flags span = if nat_le most_methods (length (methods_of l.entries))
    then Err loads.TooManyMethods else new_at site l n (method_entry site l.entries flags span)

-- an Alias (20.2.5.1): first where its source leads, then its own name
unfoldable pub alias_at : Where → Listed → Option Name → Option Name → Result Listed LoadFault
alias_at site l source n = do
  q ← lead_at site l.entries source (λ p. faults.AliasMissing p)
  new_at site l n (alias_entry site l.entries q)

-- an External, which counts for a path (20.2.5.2)
unfoldable pub external_at : Where → Listed → Option Name → ℕ → Result Listed LoadFault
external_at site l n count = do
  p ← place_at site n
  Ok (plus l (external p count))

-- the named units of a field list (20.2.5.2), each under its segment in the scope
unfoldable pub units_at : Where → Listed → List Name → Result Listed LoadFault
units_at site l [] = Ok l
units_at site l (n ∷ ns) = do
  k ← new_at site l (Some n) (plain_entry site l.entries kinds.Field)
  units_at site k ns

-- ---- The names outside methods, once all entries are there.

-- How many arguments a name takes that stands outside methods, once all entries are there. In a declaration a name that
-- nothing knows takes none.
abbrev pub use_count : Bool → List Entry → Use → Option ℕ
use_count unknown_zero es u =
    agreed_arity (outlook_of es) (unknown_zero || u.declaring) u.scope set.empty u.name

-- the fault of a call: where the code outside methods may run by the first path that its name may mean, if there is one
abbrev pub call_fault : Bool → Use → LoadFault
call_fault false u = loads.ModuleCall u.table
call_fault true u =
    unwrap_or (option_map (λ p. loads.RunCall u.table p) (placed u.scope u.name)) (loads.ModuleCall u.table)

-- each takes as many as were read with it; or the fault of the first that doesn't
unfoldable pub uses_at : Bool → Bool → List Entry → List Use → Result (Unit {0}) LoadFault
uses_at any_run unknown_zero es [] = Ok tt
uses_at any_run unknown_zero es (u ∷ us) = if option_eq nat_eq (use_count unknown_zero es u) (Some u.args)
    then uses_at any_run unknown_zero es us else Err (call_fault any_run u)

-- ---- AML that can't be read.

-- a fault of the AML of table t
abbrev pub code_fault : ℕ → CodeFault → LoadFault
code_fault t codes.NoMemory = loads.NoMemory
code_fault t f = loads.Code t f

-- the AML of table t can't be read, and the fault is true of the byte at its offset
abbrev pub Unread : ℕ → List ℕ → LoadFault → Type 0
Unread t code e = (f : CodeFault) × StandsAt no_arguments code f × ((ts : Trees) → ReadsModule code ts → ⊥)
    × (e ≡ code_fault t f)
