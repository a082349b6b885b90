-- Reading terms forward, and the first fault that is met (ACPI 6.5, 20.2): term after term, and of each its opcode, its
-- package length, its parts and its tail, in the order of their bytes. This says which of several faults a reader
-- answers. What it means that code reads as terms is said without it, by `ReadsModule` and `ReadsBody` of aml_code, and
-- what a fault says of the byte at its offset by `StandsAt`.
use Rattle.std.specs.Prelude.{◌≡◌, ℕ, zero, suc, ◌+◌, ◌-◌, Bool, true, false, ◌==◌, if◌then◌else◌, nat_lt, List, []}
use Rattle.std.specs.Prelude.{◌∷◌, length, take, drop, position, Option, Some, None, Result, Ok, Err, ok_or}
use Rattle.std.specs.FinSet as set
use Rattle.aml_names.specs.declared.faults.CodeFault.{CodeFault}
use Rattle.aml_names.specs.declared.segments.Seg.{Seg}
use Rattle.aml_names.specs.declared.names.Name.{Name}
use Rattle.aml_names.specs.Paths.{PathSet}
use Rattle.aml_names.specs.Names.{is_name_lead}
use Rattle.aml_names.specs.NameReading.{name_at, segment_at, has_segment, ◌>>=◌, Left, byte_at}
use Rattle.aml_code.specs.Opcodes.{Row, row_of, takes}
use Rattle.aml_code.specs.declared.rows.PartKind.{PartKind}
use Rattle.aml_code.specs.declared.rows.Place.{Place}
use Rattle.aml_code.specs.declared.rows.Position.{Position}
use Rattle.aml_code.specs.declared.rows.TailKind.{TailKind}
use Rattle.aml_code.specs.Packages.{little_at, length_at, span_at}
use Rattle.aml_code.specs.Tree.{Tree, nothing, named, op, Trees, no_trees, tree_more, Part, child, label, byte, word}
use Rattle.aml_code.specs.Tree.{dword, qword, text, Parts, no_parts, part_more, Tail, empty, terms, elements, fields}
use Rattle.aml_code.specs.Tree.{body, Field, unit, reserved, access, connection, extended, Fields, no_fields}
use Rattle.aml_code.specs.Tree.{field_more, Link, target, buffer, slice_of}
use Rattle.aml_code.specs.Lawful.{names_declared, with_declared, count_in, is_guard, terms_in, tail_in, next_position}
use Rattle.aml_code.specs.Faults.{Arities, most_levels}
use Rattle.aml_parse.specs.declared.positions.Lead.{Lead}

-- A reader is handed where the innermost span ends, the paths declared so far and what is left of the span. It answers
-- what it read, the paths declared then, and what is left.
abbrev pub Reader : Type 0 → Type 0
Reader A = ℕ → PathSet → List ℕ → Result (A × PathSet × List ℕ) CodeFault

-- a reader that reads to the end of the span
abbrev pub ReaderToEnd : Type 0 → Type 0
ReaderToEnd A = ℕ → PathSet → List ℕ → Result (A × PathSet) CodeFault

-- a step that declares nothing
abbrev pub flat : {A : Type 0} → PathSet → Left A → Result (A × PathSet × List ℕ) CodeFault
flat ls step = do
  x ← step
  Ok (x.0, ls, x.1)

-- what was read, as what holds it
abbrev pub held : {A B R : Type 0} → (A → B) → Result (A × R) CodeFault → Result (B × R) CodeFault
held holds read = do
  x ← read
  Ok (holds x.0, x.1)

-- the same of a reader of terms
abbrev pub held_inside : {A B : Type 0} → (A → B) → Result (A × PathSet × List ℕ) CodeFault
    → Result (B × PathSet × List ℕ) CodeFault
held_inside holds read = do
  x ← read
  Ok (holds x.0, x.1, x.2)

-- ---- parts that hold no terms

-- a byte up to the most arguments
unfoldable pub count_part : ℕ → List ℕ → Left Part
count_part end bytes = do
  n ← little_at 1 end bytes
  if nat_lt 7 n.0 then Err (CodeFault.BadCount (end - length bytes)) else Ok (byte n.0, n.1)

-- a text up to its 00
abbrev pub text_part : ℕ → List ℕ → Left Part
text_part end bytes = do
  n ← ok_or (position (λ b. b == 0) bytes) (CodeFault.Truncated end)
  Ok (text (take n bytes), drop (suc n) bytes)

-- a name with a segment
unfoldable pub segmented_at : ℕ → List ℕ → Left Name
segmented_at end bytes = do
  n ← name_at end bytes
  if has_segment n.0 then Ok n else Err (CodeFault.EmptyName (end - length bytes))

-- ---- parts

-- a part of a kind
abbrev pub part_at : (Position → Reader Tree) → PartKind → Reader Part
part_at read PartKind.Term end ls bytes = held_inside child (read Position.Argument end ls bytes)
part_at read PartKind.Target end ls bytes = held_inside child (read Position.Target end ls bytes)
part_at read PartKind.Data end ls bytes = held_inside child (read Position.Data end ls bytes)
part_at read PartKind.Name end ls bytes = flat ls (held label (segmented_at end bytes))
part_at read PartKind.ScopeName end ls bytes = flat ls (held label (name_at end bytes))
part_at read PartKind.Byte end ls bytes = flat ls (held byte (little_at 1 end bytes))
part_at read PartKind.Count end ls bytes = flat ls (count_part end bytes)
part_at read PartKind.Word end ls bytes = flat ls (held word (little_at 2 end bytes))
part_at read PartKind.Dword end ls bytes = flat ls (held dword (little_at 4 end bytes))
part_at read PartKind.Qword end ls bytes = flat ls (held qword (little_at 8 end bytes))
part_at read PartKind.Text end ls bytes = flat ls (text_part end bytes)

unfoldable pub parts_at : (Position → Reader Tree) → List PartKind → Reader Parts
parts_at read [] end ls bytes = Ok (no_parts, ls, bytes)
parts_at read (k ∷ ks) end ls bytes = do
  first ← part_at read k end ls bytes
  others ← parts_at read ks end first.1 first.2
  Ok (part_more first.0 others.0, others.1, others.2)

-- ---- lists of terms

-- so many arguments
unfoldable pub arguments_at : (Position → Reader Tree) → ℕ → Reader Trees
arguments_at read zero end ls bytes = Ok (no_trees, ls, bytes)
arguments_at read (suc n) end ls bytes = do
  first ← read Position.Argument end ls bytes
  others ← arguments_at read n end first.1 first.2
  Ok (tree_more first.0 others.0, others.1, others.2)

-- One after the other to the end of the span, each in a place that follows from the one before it. The number bounds
-- the turns: that of the bytes is always enough.
unfoldable pub to_end_at : {K A AS : Type 0} → AS → (A → AS → AS) → (K → Reader A) → (K → A → K) → ℕ → K
    → ReaderToEnd AS
to_end_at none more one next n k end ls [] = Ok (none, ls)
to_end_at none more one next zero k end ls (b ∷ bytes) = Err (CodeFault.Truncated end)
to_end_at none more one next (suc n) k end ls (b ∷ bytes) = do
  first ← one k end ls (b ∷ bytes)
  others ← to_end_at none more one next n (next k first.0) end first.1 first.2
  Ok (more first.0 others.0, others.1)

-- terms, of which an If changes the position of the next one
abbrev pub terms_at : (Position → Reader Tree) → ℕ → Position → ReaderToEnd Trees
terms_at read = to_end_at no_trees tree_more read next_position

-- ---- field lists (20.2.5.2)

-- a NameSeg and a number of bits
unfoldable pub named_unit : ℕ → List ℕ → Left Field
named_unit end bytes = do
  s ← segment_at end bytes
  n ← length_at end s.1
  Ok (unit s.0 n.0.0 n.0.1, n.1)

-- behind 00: a number of bits
abbrev pub reserved_unit : ℕ → List ℕ → Left Field
reserved_unit end bytes = held (λ n. reserved n.0 n.1) (length_at end bytes)

-- behind 01: type and attribute
unfoldable pub access_unit : ℕ → List ℕ → Left Field
access_unit end bytes = do
  kind ← byte_at end bytes
  attribute ← byte_at end kind.1
  Ok (access kind.0 attribute.0, attribute.1)

-- behind 03: type, attribute and length
unfoldable pub extended_unit : ℕ → List ℕ → Left Field
extended_unit end bytes = do
  kind ← byte_at end bytes
  attribute ← byte_at end kind.1
  len ← byte_at end attribute.1
  Ok (extended kind.0 attribute.0 len.0, len.1)

-- what a connection leads to: a Buffer, by its lead byte, or a name
unfoldable pub link_at : (Position → Reader Tree) → Reader Link
link_at read end ls bytes = do
  lead ← byte_at end bytes
  if lead.0 == 0x11 then held_inside buffer (read Position.Data end ls bytes)
      else flat ls (held target (segmented_at end bytes))

-- an element, by its lead byte
unfoldable pub field_at : (Position → Reader Tree) → Reader Field
field_at read end ls bytes = do
  lead ← byte_at end bytes
  if lead.0 == 0x00 then flat ls (reserved_unit end lead.1) else
      if lead.0 == 0x01 then flat ls (access_unit end lead.1) else
      if lead.0 == 0x02 then held_inside connection (link_at read end ls lead.1) else
      if lead.0 == 0x03 then flat ls (extended_unit end lead.1) else
      flat ls (named_unit end bytes)

-- elements to the end of the span
abbrev pub fields_at : (Position → Reader Tree) → ℕ → ReaderToEnd Fields
fields_at read n = to_end_at no_fields field_more (λ (k : Unit {0}). field_at read) (λ k _. k) n tt

-- ---- names

unfoldable pub call_at : Arities → (Position → Reader Tree) → Position → Reader Tree
call_at arity read p end ls bytes = do
  name ← name_at end bytes
  n ← ok_or (count_in arity p ls name.0) (CodeFault.UnknownName (end - length bytes))
  args ← arguments_at read n end ls name.1
  Ok (named name.0 args.0, args.1, args.2)

-- a list of terms of a table takes no name
abbrev pub takes_names : Position → Bool
takes_names Position.ModuleTerm = false
takes_names Position.GuardTerm = false
takes_names _ = true

abbrev pub name_term_at : Arities → (Position → Reader Tree) → Position → Reader Tree
name_term_at arity read p end ls bytes =
    if takes_names p then call_at arity read p end ls bytes else Err (CodeFault.ModuleCode (end - length bytes))

-- ---- opcodes

-- one byte, or 5B and a second
unfoldable pub opcode_at : ℕ → List ℕ → Left ℕ
opcode_at end bytes = do
  lead ← byte_at end bytes
  if lead.0 == 0x5B then (byte_at end lead.1 >>= λ second. Ok (0x5B00 + second.0, second.1)) else Ok lead

-- why a body doesn't take an opcode of a place
abbrev pub refused_in_body : Place → ℕ → CodeFault
refused_in_body Place.Method at = CodeFault.NestedMethod at
refused_in_body Place.Scope at = CodeFault.NestedScope at
refused_in_body Place.Else at = CodeFault.StrayElse at
refused_in_body _ at = CodeFault.NotHere at

-- why a table whose code may run doesn't take an opcode of a place
abbrev pub refused_in_run : Place → ℕ → CodeFault
refused_in_run Place.Else at = CodeFault.StrayElse at
refused_in_run _ at = CodeFault.ModuleCode at

-- why a position doesn't take an opcode of a place
abbrev pub refusal : Position → Place → ℕ → CodeFault
refusal Position.ModuleTerm place at = CodeFault.ModuleCode at
refusal Position.GuardTerm place at = CodeFault.ModuleCode at
refusal Position.RunTerm place at = refused_in_run place at
refusal Position.RunAfterIf place at = refused_in_run place at
refusal Position.BodyTerm place at = refused_in_body place at
refusal Position.AfterIf place at = refused_in_body place at
refusal _ place at = CodeFault.NotHere at

-- the content of a guard begins with 00
abbrev pub guard_at : Bool → ℕ → ℕ → List ℕ → Result Bool CodeFault
guard_at false at end inside = Ok false
guard_at true at end inside = do
  first ← byte_at end inside
  if first.0 == 0x00 then Ok true else Err (CodeFault.ModuleCode at)

-- a method's body, from where it begins to the end of its span
abbrev pub body_to : ℕ → ℕ → Tail
body_to end start = body start (end - start)

-- a tail to the end of its span
abbrev pub tail_at : (Position → Reader Tree) → Position → TailKind → ReaderToEnd Tail
tail_at read p TailKind.Terms end ls inside = held terms (terms_at read (length inside) p end ls inside)
tail_at read p TailKind.Bytes end ls inside = Ok (Tail.bytes inside, ls)
tail_at read p TailKind.Elements end ls inside =
    held elements (terms_at read (length inside) Position.Data end ls inside)
tail_at read p TailKind.Fields end ls inside = held fields (fields_at read (length inside) end ls inside)
tail_at read p TailKind.Body end ls inside = Ok (body_to end (end - length inside), ls)

-- an opcode without a package length
unfoldable pub plain_at : Option (List Seg) → (Position → Reader Tree) → Row → Reader Tree
plain_at scope read row end ls bytes = do
  ps ← parts_at read row.parts end ls bytes
  Ok (op row.opcode None ps.0 empty, with_declared scope ps.1 (names_declared row.role ps.0 empty), ps.2)

-- an opcode with a package length, which stands at an offset and has a tail of this kind
unfoldable pub packed_at : Option (List Seg) → (Position → Reader Tree) → Position → ℕ → Row → TailKind → Reader Tree
packed_at scope read p at row k end ls bytes = do
  span ← span_at end bytes
  guarded ← guard_at (is_guard p row.place) at (end - length span.2) span.1
  ps ← parts_at read row.parts (end - length span.2) ls span.1
  t ← tail_at read (terms_in p row.place) (tail_in p k) (end - length span.2) ps.1 ps.2
  Ok (op row.opcode (Some span.0) ps.0 t.0, with_declared scope t.1 (names_declared row.role ps.0 t.0), span.2)

-- one or the other, by the row's tail
abbrev pub row_at : Option (List Seg) → (Position → Reader Tree) → Position → ℕ → Row → Option TailKind → Reader Tree
row_at scope read p at row None end ls bytes = plain_at scope read row end ls bytes
row_at scope read p at row (Some k) end ls bytes = packed_at scope read p at row k end ls bytes

-- an opcode that the position takes, by its row
unfoldable pub taken_at : Position → ℕ → List ℕ → Left Row
taken_at p end bytes = do
  o ← opcode_at end bytes
  row ← ok_or (row_of o.0) (CodeFault.UnknownOp (end - length bytes))
  if takes p row.place then Ok (row, o.1) else Err (refusal p row.place (end - length bytes))

unfoldable pub operation_at : Option (List Seg) → (Position → Reader Tree) → Position → Reader Tree
operation_at scope read p end ls bytes = do
  row ← taken_at p end bytes
  row_at scope read p (end - length bytes) row.0 row.0.tail end ls row.1

-- 00 where a target is wanted
abbrev pub is_absent_target : Position → ℕ → Bool
is_absent_target Position.Target lead = lead == 0x00
is_absent_target _ lead = false

-- what the first byte of a term begins
abbrev pub Begins : Lead → Position → ℕ → Type 0
Begins Lead.Name p lead = is_name_lead lead ≡ true
Begins Lead.Nothing p lead = (is_name_lead lead ≡ false) × (is_absent_target p lead ≡ true)
Begins Lead.Opcode p lead = (is_name_lead lead ≡ false) × (is_absent_target p lead ≡ false)

-- a term, with what is inside it read by another reader
unfoldable pub term_at : Arities → Option (List Seg) → (Position → Reader Tree) → Position → Reader Tree
term_at arity scope read p end ls bytes = do
  lead ← byte_at end bytes
  if is_name_lead lead.0 then name_term_at arity read p end ls bytes else
      if is_absent_target p lead.0 then Ok (nothing, ls, lead.1) else
      operation_at scope read p end ls bytes

-- no level is left
abbrev pub too_deep : Reader Tree
too_deep end ls bytes = do
  lead ← byte_at end bytes
  Err (CodeFault.TooDeep (end - length bytes))

-- a term with at most so many levels
unfoldable pub read_at : Arities → Option (List Seg) → ℕ → Position → Reader Tree
read_at arity scope zero p end ls bytes = too_deep end ls bytes
read_at arity scope (suc levels) p end ls bytes = term_at arity scope (read_at arity scope levels) p end ls bytes

-- ---- all of the code

-- Reading all of the code as terms of a position: the terms, or the first fault that is met.
unfoldable pub all_at : Arities → Option (List Seg) → Position → List ℕ → Result Trees CodeFault
all_at arity scope p code = do
  ts ← terms_at (read_at arity scope most_levels) (length code) p (length code) set.empty code
  Ok ts.0

-- ---- a step through a table whose code may run

-- a term from an offset on, inside a span that ends at another, and where what is behind it begins
unfoldable pub step_at : Arities → ℕ → Position → List ℕ → ℕ → ℕ → Result (Tree × ℕ) CodeFault
step_at arity levels p code at end = do
  x ← read_at arity None levels p end set.empty (slice_of code at (end - at))
  Ok (x.0, end - length x.2)
