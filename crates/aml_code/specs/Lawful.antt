-- What a term declares (ACPI 6.5, 5.3 and 20.2.5), and which paths are declared once it was read.
use Rattle.std.specs.Prelude.{ℕ, false, List, [], ◌∷◌, Option, Some, None, ◌≡◌, zero, suc, ◌+◌, ◌^◌, ◌<◌, ◌≤◌, Bool}
use Rattle.std.specs.Prelude.{true, cond, ◌++◌, ◌==◌, length, All, option_map, option_to_list}
use Rattle.std.specs.List.{Contains, filter_map, fold}
use Rattle.std.specs.FinSet as set
use Rattle.aml_names.specs.declared.segments.Seg.{Seg}
use Rattle.aml_names.specs.declared.names.Name.{Name}
use Rattle.aml_names.specs.declared.names.NameForm.TheVariants.{One}
use Rattle.aml_names.specs.Paths.{PathSet}
use Rattle.aml_names.specs.Names.{placed, IsNameSeg, IsName}
use Rattle.aml_code.specs.declared.rows.Role.{Role}
use Rattle.aml_code.specs.declared.rows.Role.TheVariants as roles
use Rattle.aml_code.specs.Opcodes.{Row, row_of, takers}
use Rattle.aml_code.specs.Tree.{Tree, nothing, named, op, Trees, no_trees, tree_more, label, byte, Parts, no_parts}
use Rattle.aml_code.specs.Tree.{part_more, Tail, terms, fields, unit, Fields, no_fields, field_more, Part, child, word}
use Rattle.aml_code.specs.Tree.{dword, qword, text, empty, bytes, elements, body, Field, reserved, access, connection}
use Rattle.aml_code.specs.Tree.{extended, target, buffer, tree_count, parts_encoding, tail_encoding}
use Rattle.aml_code.specs.Tree.{encoding, encodings}
use Rattle.aml_names.specs.NameReading.{has_segment, is_bare}
use Rattle.aml_code.specs.declared.packages.PkgWidth.{PkgWidth}
use Rattle.aml_code.specs.declared.rows.PartKind.{PartKind}
use Rattle.aml_code.specs.declared.rows.PartKind.TheVariants as part_kinds
use Rattle.aml_code.specs.declared.rows.Place.{Place}
use Rattle.aml_code.specs.declared.rows.Place.TheVariants as places
use Rattle.aml_code.specs.declared.rows.Position.{Position}
use Rattle.aml_code.specs.declared.rows.Position.TheVariants as positions
use Rattle.aml_code.specs.declared.rows.TailKind.{TailKind}
use Rattle.aml_code.specs.declared.rows.TailKind.TheVariants as tails
use Rattle.aml_code.specs.Packages.{width_len, FitsWidth}
use Rattle.aml_code.specs.Faults.{Arities, StandsThere}

-- the last part that is a name, or else this
abbrev pub last_label : Option Name → Parts → Option Name
last_label found no_parts = found
last_label found (part_more (label n) ps) = last_label (Some n) ps
last_label found (part_more _ ps) = last_label found ps

-- the last part that is a byte, or else this
abbrev pub last_byte : Option ℕ → Parts → Option ℕ
last_byte found no_parts = found
last_byte found (part_more (byte b) ps) = last_byte (Some b) ps
last_byte found (part_more _ ps) = last_byte found ps

-- a name of one segment without prefix
abbrev pub plain_name : Seg → Name
plain_name s = record { root = false; ups = 0; form = One; segs = s ∷ [] }

-- the named units of a field list, in order, each as a name of one segment without prefix
abbrev pub unit_names : Fields → List Name
unit_names no_fields = []
unit_names (field_more (unit s w n) us) = record { root = false; ups = 0; form = One; segs = s ∷ [] } ∷ unit_names us
unit_names (field_more _ us) = unit_names us

abbrev pub field_names : Tail → List Name
field_names (fields us) = unit_names us
field_names _ = []

-- The names that a term declares itself, by the role of its row, in the order of the text. An External declares none:
-- what it names is declared elsewhere.
abbrev pub names_declared : Role → Parts → Tail → List Name
names_declared (roles.Declares o) ps t = option_to_list (last_label None ps)
names_declared roles.Method ps t = option_to_list (last_label None ps)
names_declared roles.Alias ps t = option_to_list (last_label None ps)
names_declared roles.Fields ps t = field_names t
names_declared _ ps t = []

-- In a method's body the paths of names, placed from the method's path, are added; a name that leads above the root
-- adds nothing. The terms of a table keep no such paths.
abbrev pub with_declared : Option (List Seg) → PathSet → List Name → PathSet
with_declared None ls ns = ls
with_declared (Some scope) ls ns = fold set.insert ls (filter_map (placed scope) ns)

-- the same in a body, and of one name
abbrev pub with_names : List Seg → PathSet → List Name → PathSet
with_names scope ls ns = with_declared (Some scope) ls ns

abbrev pub with_path : PathSet → Option (List Seg) → PathSet
with_path ls None = ls
with_path ls (Some p) = set.insert ls p

-- these paths, and those that a term declares itself, by its row
abbrev pub declared_by : Option (List Seg) → Option Row → PathSet → Parts → Tail → PathSet
declared_by scope None ls ps t = ls
declared_by scope (Some row) ls ps t = with_declared scope ls (names_declared row.role ps t)

-- The paths that are declared after a term: those of the terms in its tail, and then its own. What else is inside it,
-- as arguments, elements and connections, declares nothing.
abbrev mutual
  pub after : Option (List Seg) → PathSet → Tree → PathSet
  after scope ls (op o w ps t) = declared_by scope (row_of o) (after_tail scope ls t) ps t
  after scope ls _ = ls

  pub after_all : Option (List Seg) → PathSet → Trees → PathSet
  after_all scope ls no_trees = ls
  after_all scope ls (tree_more t ts) = after_all scope (after scope ls t) ts

  pub after_tail : Option (List Seg) → PathSet → Tail → PathSet
  after_tail scope ls (terms ts) = after_all scope ls ts
  after_tail scope ls _ = ls

-- ---- Which trees are AML (ACPI 6.5, 20.2): what each position takes, what each row is made of, how many arguments a
-- name has.
--
-- Wider than 20.2: a text has bytes 01 to FF; the byte 00 stands as any SuperName, for instance an Increment's; Debug
-- stands as any TermArg; a value alone, or a name that is no method, stands as a term of a body; a name stands as any
-- data object.
-- Narrower: no call stands as a SuperName or a Target; no Method, Scope, Device, Processor, PowerResource or
-- ThermalZone in a body; in a table only declarations and guards, unless its code may run, and never a Return; at most
-- 512 levels.

-- What the grammar leaves to where the terms stand: the code that spans point into, how many arguments a name takes by
-- the paths declared so far, and the scope from which a body's declarations are placed (none in a table).
pub record Setting : Type 0 where
  pub code : List ℕ
  pub arity : Arities
  pub scope : Option (List Seg)

-- How many arguments follow a name in a position: its own number where it is a TermArg or a term of a body or of a
-- table whose code may run, none where it is a target or stands in data. As a term of another table, or of a guard, no
-- name stands.
abbrev pub count_in : Arities → Position → PathSet → Name → Option ℕ
count_in arity positions.ModuleTerm ls n = None
count_in arity positions.GuardTerm ls n = None
count_in arity positions.Target ls n = Some 0
count_in arity positions.Data ls n = Some 0
count_in arity _ ls n = arity ls n

-- a package length stands where the row has a tail, and has room for its own bytes and the content
abbrev pub HasWidth : Option TailKind → Option PkgWidth → ℕ → Type 0
HasWidth None None len = Unit {0}
HasWidth (Some k) (Some w) len = FitsWidth w (width_len w + len)
HasWidth _ _ len = ⊥

-- where the terms inside a term stand: those inside an If of a table are those of a guard
abbrev pub terms_in : Position → Place → Position
terms_in positions.ModuleTerm places.If = positions.GuardTerm
terms_in positions.ModuleTerm _ = positions.ModuleTerm
terms_in positions.RunTerm _ = positions.RunTerm
terms_in positions.RunAfterIf _ = positions.RunTerm
terms_in _ _ = positions.BodyTerm

-- the same as a test: the terms inside a term are those of a guard
abbrev pub is_guard : Position → Place → Bool
is_guard positions.ModuleTerm places.If = true
is_guard _ _ = false

-- What is kept of a tail. A table whose code may run is read from the left, so that how many arguments the names inside
-- a term take is known when these are reached: of the terms inside a term only their span is kept, as of a body.
abbrev pub tail_in : Position → TailKind → TailKind
tail_in positions.RunTerm tails.Terms = tails.Body
tail_in positions.RunAfterIf tails.Terms = tails.Body
tail_in _ k = k

-- whether a term has this opcode
abbrev pub has_opcode : ℕ → Tree → Bool
has_opcode o (op p w ps t) = p == o
has_opcode o _ = false

-- where the next term of a list stands: behind an If, which is the opcode A0, or not
abbrev pub next_position : Position → Tree → Position
next_position positions.BodyTerm t = cond (has_opcode 0xA0 t) positions.AfterIf positions.BodyTerm
next_position positions.AfterIf t = cond (has_opcode 0xA0 t) positions.AfterIf positions.BodyTerm
next_position positions.RunTerm t = cond (has_opcode 0xA0 t) positions.RunAfterIf positions.RunTerm
next_position positions.RunAfterIf t = cond (has_opcode 0xA0 t) positions.RunAfterIf positions.RunTerm
next_position p t = p

-- ---- What stands inside a term, by which terms may stand in which positions there (`Is`).

-- a part of a kind; an External has a count of at most seven arguments (20.2.5.2)
abbrev pub IsPart : (Position → Tree → Type 0) → PartKind → Part → Type 0
IsPart Is part_kinds.Term (child t) = Is positions.Argument t
IsPart Is part_kinds.Target (child t) = Is positions.Target t
IsPart Is part_kinds.Data (child t) = Is positions.Data t
IsPart Is part_kinds.Name (label n) = IsName n × (has_segment n ≡ true)
IsPart Is part_kinds.ScopeName (label n) = IsName n
IsPart Is part_kinds.Byte (byte b) = b < 256 ^ 1
IsPart Is part_kinds.Count (byte b) = b ≤ 7
IsPart Is part_kinds.Word (word n) = n < 256 ^ 2
IsPart Is part_kinds.Dword (dword n) = n < 256 ^ 4
IsPart Is part_kinds.Qword (qword n) = n < 256 ^ 8
IsPart Is part_kinds.Text (text bs) = All (λ b. (0 < b) × (b < 256)) bs
IsPart Is _ _ = ⊥

-- parts of these kinds, in order
abbrev pub AreParts : (Position → Tree → Type 0) → List PartKind → Parts → Type 0
AreParts Is [] no_parts = Unit {0}
AreParts Is (k ∷ ks) (part_more x xs) = IsPart Is k x × AreParts Is ks xs
AreParts Is _ _ = ⊥

-- an element of a field list; a connection has a name, or a Buffer (11)
abbrev pub IsField : (Position → Tree → Type 0) → Field → Type 0
IsField Is (unit s w n) = IsNameSeg s.0 × FitsWidth w n
IsField Is (reserved w n) = FitsWidth w n
IsField Is (access a b) = (a < 256) × (b < 256)
IsField Is (connection (target n)) = IsName n × (has_segment n ≡ true)
IsField Is (connection (buffer t)) = (has_opcode 0x11 t ≡ true) × Is positions.Data t
IsField Is (extended a b c) = (a < 256) × (b < 256) × (c < 256)

-- a field list
abbrev pub AreFields : (Position → Tree → Type 0) → Fields → Type 0
AreFields Is no_fields = Unit {0}
AreFields Is (field_more u us) = IsField Is u × AreFields Is us

-- A list of terms, of arguments or of elements, from the left. What a term declares counts behind it; arguments and
-- elements declare nothing.
abbrev pub TermsStand : Setting → (Position → PathSet → Tree → Type 0) → Position → PathSet → Trees → Type 0
TermsStand s Is p ls no_trees = Unit {0}
TermsStand s Is p ls (tree_more t ts) = Is p ls t × TermsStand s Is (next_position p t) (after s.scope ls t) ts

-- what follows the parts, of a kind, or nothing
abbrev pub IsTail : Setting → (Position → PathSet → Tree → Type 0) → Position → Option TailKind → PathSet → Tail
    → Type 0
IsTail s Is p None ls empty = Unit {0}
IsTail s Is p (Some tails.Terms) ls (terms ts) = TermsStand s Is p ls ts
IsTail s Is p (Some tails.Bytes) ls (bytes bs) = All (λ b. b < 256) bs
IsTail s Is p (Some tails.Elements) ls (elements ts) = TermsStand s Is positions.Data ls ts
IsTail s Is p (Some tails.Fields) ls (fields us) = AreFields (λ q. Is q ls) us
IsTail s Is p (Some tails.Body) ls (body start len) = start + len ≤ length s.code
IsTail s Is p _ ls _ = ⊥

-- An operation: its opcode has a row that the position takes, with a package length, parts and a tail as the row says.
-- The predicate of a guard is the byte 00.
pub record IsOperation (s : Setting) (Is : Position → PathSet → Tree → Type 0) (p : Position) (ls : PathSet) (o : ℕ)
    (w : Option PkgWidth) (ps : Parts) (t : Tail) : Type 0 where
  pub row : Row
  pub listed : row_of o ≡ Some row
  pub taken : Contains (takers row.place) p
  pub width : HasWidth row.tail w (length (parts_encoding s.code ps ++ tail_encoding s.code t))
  pub guarded : terms_in p row.place ≡ positions.GuardTerm
      → ps ≡ part_more (child (op 0x00 None no_parts empty)) no_parts
  pub parts : AreParts (λ q. Is q ls) row.parts ps
  pub tail : IsTail s Is (terms_in p row.place) (option_map (tail_in p) row.tail) ls t

-- IsLawful s levels p ls t: the tree t may stand in the position p, with at most so many levels of nesting, where the
-- paths ls are declared. What stands inside a term and not in a list of terms declares nothing, so all of it has one
-- ls.
abbrev pub IsLawful : Setting → ℕ → Position → PathSet → Tree → Type 0
IsLawful s zero p ls t = ⊥
IsLawful s (suc levels) p ls nothing = p ≡ positions.Target
IsLawful s (suc levels) p ls (named n ts) =
    IsName n × (is_bare n ≡ false) × (count_in s.arity p ls n ≡ Some (tree_count ts))
    × TermsStand s (IsLawful s levels) positions.Argument ls ts
IsLawful s (suc levels) p ls (op o w ps t) = IsOperation s (IsLawful s levels) p ls o w ps t

-- a list of terms, with at most so many levels
abbrev pub AreTerms : Setting → ℕ → Position → PathSet → Trees → Type 0
AreTerms s levels = TermsStand s (IsLawful s levels)

-- ---- What it is that code reads as a tree (ACPI 6.5, 5.3 and 20.2): the tree is lawful, and its bytes are the code.

-- inside some code, by how many arguments each name takes
abbrev pub setting_of : Arities → Option (List Seg) → List ℕ → Setting
setting_of arity scope code = record { code = code; arity = arity; scope = scope }

-- The bytes of a method's body read as these terms: they are lawful, where at first there are no locals, with at most
-- 512 levels, and they are spelled by the bytes. Declarations are placed from the method's path.
pub record ReadsBody (arity : Arities) (method : List Seg) (code : List ℕ) (ts : Trees) : Type 0 where
  pub lawful : AreTerms (setting_of arity (Some method) code) 512 positions.BodyTerm set.empty ts
  pub spelled : encodings code ts ≡ code

-- Where the encoding begins at this offset, the span of each method's body begins right behind its term's opcode,
-- package length and parts.
abbrev mutual
  pub BodiesStand : List ℕ → ℕ → Trees → Type 0
  BodiesStand code at no_trees = Unit {0}
  BodiesStand code at (tree_more t ts) = BodyStands code at t × BodiesStand code (at + length (encoding code t)) ts

  pub BodyStands : List ℕ → ℕ → Tree → Type 0
  BodyStands code at (op o w ps t) = TailStands code (at + length (encoding code (op o w ps empty))) t
  BodyStands code at _ = Unit {0}

  pub TailStands : List ℕ → ℕ → Tail → Type 0
  TailStands code at (terms ts) = BodiesStand code at ts
  TailStands code at (body start len) = start ≡ at
  TailStands code at _ = Unit {0}

-- The AML of a table reads as these terms: they are lawful as terms of a table, with at most 512 levels, no name has
-- arguments, they are spelled by the code, and each method's body is the span where it stands.
pub record ReadsModule (code : List ℕ) (ts : Trees) : Type 0 where
  pub lawful : AreTerms (setting_of (λ ls n. Some 0) None code) 512 positions.ModuleTerm set.empty ts
  pub spelled : encodings code ts ≡ code
  pub bodies : BodiesStand code 0 ts

-- the counts of a table's names
abbrev pub no_arguments : Arities
no_arguments ls n = Some 0

-- ---- A table whose code may run is read from the left, a step at a time.

-- From an offset on, inside a span that ends at another, the code reads as this term, and a third offset is behind it:
-- the term is lawful, with at most so many levels, its bytes stand there, and what of it is read later, a method's body
-- or the terms inside it, is the span where it stands.
pub record ReadsStep (arity : Arities) (levels : ℕ) (p : Position) (code : List ℕ) (at end : ℕ) (t : Tree) (behind : ℕ)
    : Type 0 where
  pub lawful : IsLawful (setting_of arity None code) levels p set.empty t
  pub spelled : StandsThere code at (encoding code t)
  pub ends : at + length (encoding code t) ≡ behind
  pub inside : behind ≤ end
  pub bodies : BodyStands code at t
