-- The text of names and of terms on one line.
use Rattle.std.specs.Prelude.{ℕ, Bool, true, false, cond, List, [], ◌∷◌, ◌++◌, map, flat_map, replicate, length, drop}
use Rattle.std.specs.Prelude.{Option, Some, None, option_map, zero, suc, decimal, ◌/◌, ◌%◌, ◌==◌, ◌&&◌, not}
use Rattle.aml_names.specs.declared.segments.Seg.{Seg}
use Rattle.aml_names.specs.declared.names.Name.{Name}
use Rattle.aml_code.specs.declared.rows.Group.{Group}
use Rattle.aml_code.specs.declared.rows.Group.TheVariants as groups
use Rattle.aml_code.specs.Opcodes.{Row, row_of, has_length}
use Rattle.aml_code.specs.Tree.{Tree, nothing, named, op, Trees, no_trees, tree_more, Part, child, label, byte}
use Rattle.aml_code.specs.Tree.{word as word_part, dword, qword, text as text_part, Parts, no_parts, part_more, Tail}
use Rattle.aml_code.specs.Tree.{bytes, elements, terms, fields, body, Field, unit, reserved, access, connection}
use Rattle.aml_code.specs.Tree.{extended, Fields, no_fields, field_more, Link, target, buffer, slice_of}
use Rattle.aml_code.specs.Pieces.{deeper}
use Rattle.text_writer.specs.Prints.{word, hex2, hex4, hex8, hex16, quoted}
use Rattle.aml_code.specs.Lawful.{last_label, last_byte}

-- texts with a separator between two
unfoldable pub separated : List ℕ → List (List ℕ) → List ℕ
separated separator [] = []
separated separator (first ∷ rest) = first ++ flat_map (λ text. separator ++ text) rest

-- texts with a comma and a space between two
abbrev pub joined : List (List ℕ) → List ℕ
joined texts = separated (word ", ") texts

-- ---- names

-- the prefix: \ for the root, ^ for each parent
unfoldable pub prefix_text : Name → List ℕ
prefix_text n = cond n.root (word "\\") [] ++ replicate n.ups 94

unfoldable pub segment_text : Seg → List ℕ
segment_text s = s.0

-- the prefix and the segments, with a dot between two
unfoldable pub name_text : Name → List ℕ
name_text n = prefix_text n ++ separated (word ".") (map segment_text n.segs)

-- ---- terms

-- arguments in parentheses, if there are any: (Zero, Local0)
unfoldable pub arguments_text : List (List ℕ) → List ℕ
arguments_text [] = []
arguments_text (x ∷ xs) = word " (" ++ joined (x ∷ xs) ++ word ")"

-- what is inside a Buffer or a package: {AA, BB}
unfoldable pub braced : List (List ℕ) → List ℕ
braced texts = word " {" ++ joined texts ++ word "}"

abbrev pub is_value : Group → Bool
is_value groups.Value = true
is_value _ = false

-- a value that its part spells, which stands alone: of Byte, Word, Dword, Qword and Text. Zero, One and Ones have their
-- mnemonics
abbrev pub is_constant : Row → Bool
is_constant r = is_value r.group && (not (has_length r.tail) && not (length r.parts == 0))

-- an opcode and its parts
unfoldable pub head_text : Option Row → List (List ℕ) → List ℕ
head_text None texts = joined texts
head_text (Some r) texts = cond (is_constant r) (joined texts) (r.mnemonic ++ arguments_text texts)

-- the text of a term, of parts, and of the tails that stand on the same line
abbrev mutual
  pub inline : Tree → List ℕ
  inline nothing = []
  inline (named n ts) = name_text n ++ arguments_text (inlines ts)
  inline (op o w ps t) = head_text (row_of o) (part_texts ps) ++ tail_text t

  pub inlines : Trees → List (List ℕ)
  inlines no_trees = []
  inlines (tree_more t ts) = inline t ∷ inlines ts

  pub part_text : Part → List ℕ
  part_text (child t) = inline t
  part_text (label n) = name_text n
  part_text (byte b) = word "0x" ++ hex2 b
  part_text (word_part n) = word "0x" ++ hex4 n
  part_text (dword n) = word "0x" ++ hex8 n
  part_text (qword n) = word "0x" ++ hex16 n
  part_text (text_part s) = quoted s

  pub part_texts : Parts → List (List ℕ)
  part_texts no_parts = []
  part_texts (part_more p ps) = part_text p ∷ part_texts ps

  pub tail_text : Tail → List ℕ
  tail_text (bytes bs) = braced (map hex2 bs)
  tail_text (elements ts) = braced (inlines ts)
  tail_text _ = []

abbrev pub head_of : ℕ → Parts → List ℕ
head_of o ps = head_text (row_of o) (part_texts ps)

-- ---- The lines of terms, of field lists, of methods and of definition blocks.

-- two spaces for each level
unfoldable pub indent : ℕ → List ℕ
indent zero = []
indent (suc n) = indent n ++ word "  "

-- a line
unfoldable pub line : ℕ → List ℕ → List ℕ
line level text = indent level ++ text ++ word "\n"

-- lines between braces: HEAD {
--   ..
-- }
unfoldable pub opening : ℕ → List ℕ → List ℕ
opening level head = indent level ++ head ++ word " {\n"

abbrev pub block : ℕ → List ℕ → List ℕ → List ℕ
block level head inside = opening level head ++ inside ++ line level (word "}")

-- ---- field lists

abbrev pub link_text : Link → List ℕ
link_text (target n) = name_text n
link_text (buffer t) = inline t

-- two bytes as constants
unfoldable pub byte_pair : ℕ → ℕ → List ℕ
byte_pair a b = (word "0x" ++ hex2 a) ++ word ", " ++ (word "0x" ++ hex2 b)

unfoldable pub byte_end : ℕ → List ℕ
byte_end c = word ", " ++ (word "0x" ++ hex2 c) ++ word ")"

-- the text of an element of a field list:
--   FLD0, 8
--   Reserved, 8
--   Access (0x01, 0x00)
--   Connection (I2C0)
--   ExtendedAccess (0x01, 0x00, 0x04)
abbrev pub field_text : Field → List ℕ
field_text (unit s w n) = s.0 ++ word ", " ++ decimal n
field_text (reserved w n) = word "Reserved, " ++ decimal n
field_text (access a b) = word "Access (" ++ byte_pair a b ++ word ")"
field_text (connection l) = word "Connection (" ++ link_text l ++ word ")"
field_text (extended a b c) = word "ExtendedAccess (" ++ byte_pair a b ++ byte_end c

abbrev pub field_lines : ℕ → Fields → List ℕ
field_lines level no_fields = []
field_lines level (field_more u us) = line level (field_text u) ++ field_lines level us

-- ---- methods

-- what became of a method's body: its terms, or that it reads as none; its bytes are the span that `Method` says
pub data OneBody : Type 0 where
  read : Trees → OneBody
  raw : OneBody

-- bit 3 of a method's flags (ACPI 6.5, 20.2.5.2)
unfoldable pub serialized_text : ℕ → List ℕ
serialized_text flags = cond (flags / 8 % 2 == 1) (word ", Serialized") (word ", NotSerialized")

-- the number of arguments, whether the method is serialized, and its sync level
unfoldable pub flags_text : ℕ → List ℕ
flags_text flags = (word ", " ++ decimal (flags % 8)) ++ serialized_text flags ++ (word ", " ++ decimal (flags / 16))

-- a method's name and flags: Method (FOO_, 2, NotSerialized, 0)
unfoldable pub method_text : Name → ℕ → List ℕ
method_text n flags = word "Method (" ++ name_text n ++ flags_text flags ++ word ")"

-- the head of a method, by its name and flags, if its parts have them
abbrev pub method_head_by : Option Name → Option ℕ → List ℕ → List ℕ
method_head_by (Some n) (Some flags) other = method_text n flags
method_head_by (Some n) None other = other
method_head_by None flags other = other

abbrev pub method_head : ℕ → Parts → List ℕ
method_head o ps = method_head_by (last_label None ps) (last_byte None ps) (head_of o ps)

-- the lines of a body: by the level at which they stand, and by the body's bytes
abbrev pub BodyLines : Type 0
BodyLines = ℕ → List ℕ → List ℕ

-- the lines of the first of some bodies
abbrev pub first_lines : List BodyLines → BodyLines
first_lines [] level bs = []
first_lines (b ∷ others) level bs = b level bs

-- A method with these parts: a block with the first of the bodies, of which this is the code; or its head alone, where
-- no bodies are given.
abbrev pub method_lines : ℕ → ℕ → Parts → List ℕ → Option (List BodyLines) → List ℕ
method_lines level o ps code None = line level (head_of o ps)
method_lines level o ps code (Some bs) = block level (method_head o ps) (first_lines bs (deeper level) code)

-- ---- terms

-- the levels at which the bodies of methods stand, in the order of the text: in a term, in a tail whose terms stand at
-- this level, and in terms
abbrev mutual
  pub levels_in : ℕ → Tree → List ℕ
  levels_in level (op o w ps t) = tail_levels (deeper level) t
  levels_in level _ = []

  pub tail_levels : ℕ → Tail → List ℕ
  tail_levels level (terms ts) = all_levels level ts
  tail_levels level (body start len) = level ∷ []
  tail_levels level _ = []

  pub all_levels : ℕ → Trees → List ℕ
  all_levels level no_trees = []
  all_levels level (tree_more t ts) = levels_in level t ++ all_levels level ts

-- of those in tables, one after the other
abbrev pub levels_of : List Trees → List ℕ
levels_of [] = []
levels_of (ts ∷ others) = all_levels 1 ts ++ levels_of others

-- the bodies that are left when one is taken for each of these levels
abbrev pub behind : List ℕ → List BodyLines → List BodyLines
behind levels bs = drop (length levels) bs

-- The lines of a term: a block where it has terms or a field list in it, as Scope (\_SB_) { .. }, else one line, as
-- Store (Zero, Local0). Methods, whose bodies lie in this code, take those that are given, in the order of the text.
abbrev mutual
  pub term_lines : List ℕ → Option (List BodyLines) → ℕ → Tree → List ℕ
  term_lines code bs level (op o w ps t) = op_lines code bs level o ps t
  term_lines code bs level t = line level (inline t)

  pub op_lines : List ℕ → Option (List BodyLines) → ℕ → ℕ → Parts → Tail → List ℕ
  op_lines code bs level o ps (terms ts) = block level (head_of o ps) (terms_lines code bs (deeper level) ts)
  op_lines code bs level o ps (fields us) = block level (head_of o ps) (field_lines (deeper level) us)
  op_lines code bs level o ps (body start len) = method_lines level o ps (slice_of code start len) bs
  op_lines code bs level o ps t = line level (head_of o ps ++ tail_text t)

  pub terms_lines : List ℕ → Option (List BodyLines) → ℕ → Trees → List ℕ
  terms_lines code bs level no_trees = []
  terms_lines code bs level (tree_more t ts) =
      term_lines code bs level t ++ terms_lines code (option_map (behind (levels_in level t)) bs) level ts

-- a term, and terms, whose methods stand without their bodies
abbrev pub lines : ℕ → Tree → List ℕ
lines level t = term_lines [] None level t

abbrev pub all_lines : ℕ → Trees → List ℕ
all_lines level ts = terms_lines [] None level ts

-- the bytes of a body that can't be read: Raw {A4, 5A}
abbrev pub raw_text : List ℕ → List ℕ
raw_text bs = word "Raw" ++ braced (map hex2 bs)

-- the lines of a body: its terms, or its bytes where it can't be read
abbrev pub body_lines : OneBody → BodyLines
body_lines (read ts) level bs = all_lines level ts
body_lines raw level bs = line level (raw_text bs)

-- ---- definition blocks

-- the bodies that are left for the next tables
abbrev pub left_all : Trees → List BodyLines → List BodyLines
left_all ts bs = behind (all_levels 1 ts) bs

-- a definition block: DefinitionBlock ("dsdt.dat") { .. }, with its table's file name in place of the six arguments
-- that the standard has (ACPI 6.5, 19.6)
abbrev pub block_text : List ℕ → List ℕ → Trees → List BodyLines → List ℕ
block_text name code ts bs =
    block 0 (word "DefinitionBlock (" ++ quoted name ++ word ")") (terms_lines code (Some bs) 1 ts)

-- a table that is printed as a definition block
pub record OneBlock : Type 0 where
  pub name : List ℕ
  pub code : List ℕ
  pub terms : Trees

-- definition blocks, one after the other: each takes the bodies of its own methods, and the next one those that are
-- left
abbrev pub blocks_text : List OneBlock → List BodyLines → List ℕ
blocks_text [] bs = []
blocks_text (b ∷ others) bs = block_text b.name b.code b.terms bs ++ blocks_text others (left_all b.terms bs)
