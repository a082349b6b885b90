-- The levels of lines, and the pieces of terms that a reader tells without a tree, in the order of their bytes
-- (ACPI 6.5, 20.2).
use Rattle.std.specs.Prelude.{ℕ, suc, ◌+◌, List, [], ◌∷◌, ◌++◌, Option, Some, length, min}
use Rattle.aml_names.specs.declared.names.Name.{Name}
use Rattle.aml_code.specs.declared.packages.PkgWidth.{PkgWidth}
use Rattle.aml_code.specs.declared.rows.TailKind.{TailKind}
use Rattle.aml_code.specs.declared.pieces.Piece.{Piece}
use Rattle.aml_code.specs.declared.pieces.Piece.TheVariants as piece
use Rattle.aml_code.specs.Opcodes.{Row, row_of, row_view}
use Rattle.aml_code.specs.Tree.{Tree, nothing, named, op, Trees, no_trees, tree_more, tree_count, Part, child, Parts}
use Rattle.aml_code.specs.Tree.{label, byte, word, dword, qword, text, no_parts, part_more, Tail, empty, terms, bytes}
use Rattle.aml_code.specs.Tree.{elements, fields, body, Field, connection, Fields, no_fields, field_more, Link, buffer}
use Rattle.aml_code.specs.View.{field_view}

-- A piece. What follows a name, an opcode and the beginning of a list goes up to an end; before each argument, part and
-- element but the first of them stands `next`, and each term of a list, and each element of a field list, is a line.
pub data Told : Type 0 where
  absent : Told
  name : Name → ℕ → Told
  end_of_call : ℕ → Told
  opcode : ℕ → Option Row → Option PkgWidth → ℕ → Told
  end_of_parts : Option Row → ℕ → Told
  next : Told
  part : Part → Told
  tail : Tail → Told
  list : TailKind → Told
  end_of_list : TailKind → ℕ → Told
  line : ℕ → Told
  end_of_line : Told
  field : Field → Told
  link : Told
  end_of_link : Told

-- the level of the lines inside a line's block: at most 2^32 - 1, which 512 levels never reach
abbrev pub deeper : ℕ → ℕ
deeper level = min (level + 1) 4294967295

-- how many parts there are
abbrev pub part_count : Parts → ℕ
part_count no_parts = 0
part_count (part_more p ps) = suc (part_count ps)

-- a term that stands in a line of this level
abbrev mutual
  pub pieces : ℕ → Tree → List Told
  pieces level nothing = absent ∷ []
  pieces level (named n ts) =
      name n (tree_count ts) ∷ (items level ts ++ end_of_call (tree_count ts) ∷ [])
  pieces level (op o w ps t) =
      opcode o (row_of o) w (part_count ps) ∷ (parts_pieces level ps ++ end_of_parts (row_of o) (part_count ps)
      ∷ tail_pieces level t)

  -- arguments, or elements
  pub items : ℕ → Trees → List Told
  items level no_trees = []
  items level (tree_more t ts) = pieces level t ++ more_items level ts

  pub more_items : ℕ → Trees → List Told
  more_items level no_trees = []
  more_items level (tree_more t ts) = next ∷ (pieces level t ++ more_items level ts)

  pub part_pieces : ℕ → Part → List Told
  part_pieces level (child t) = pieces level t
  part_pieces level p = part p ∷ []

  pub parts_pieces : ℕ → Parts → List Told
  parts_pieces level no_parts = []
  parts_pieces level (part_more p ps) = part_pieces level p ++ more_parts level ps

  pub more_parts : ℕ → Parts → List Told
  more_parts level no_parts = []
  more_parts level (part_more p ps) = next ∷ (part_pieces level p ++ more_parts level ps)

  pub tail_pieces : ℕ → Tail → List Told
  tail_pieces level (terms ts) =
      list TailKind.Terms ∷ (line_pieces (deeper level) ts ++ end_of_list TailKind.Terms level ∷ [])
  tail_pieces level (elements ts) =
      list TailKind.Elements ∷ (items level ts ++ end_of_list TailKind.Elements level ∷ [])
  tail_pieces level (fields us) =
      list TailKind.Fields ∷ (fields_pieces (deeper level) us ++ end_of_list TailKind.Fields level ∷ [])
  tail_pieces level t = tail t ∷ []

  -- terms, a line each at this level, or a line with a block
  pub line_pieces : ℕ → Trees → List Told
  line_pieces level no_trees = []
  line_pieces level (tree_more t ts) = line level ∷ (pieces level t ++ end_of_line ∷ line_pieces level ts)

  pub fields_pieces : ℕ → Fields → List Told
  fields_pieces level no_fields = []
  fields_pieces level (field_more u us) =
      line level ∷ (field_pieces level u ++ end_of_line ∷ fields_pieces level us)

  pub field_pieces : ℕ → Field → List Told
  field_pieces level (connection l) = link_pieces level l
  field_pieces level u = field u ∷ []

  pub link_pieces : ℕ → Link → List Told
  link_pieces level (buffer t) = link ∷ (pieces level t ++ end_of_link ∷ [])
  link_pieces level l = field (connection l) ∷ []

-- a piece, as it is told
abbrev pub piece_view : Piece → Told
piece_view piece.Absent = absent
piece_view (piece.Name n count) = name n.now count
piece_view (piece.EndOfCall count) = end_of_call count
piece_view (piece.Opcode row w) = opcode row.now.opcode (Some (row_view row.now)) w (length row.now.parts.now)
piece_view (piece.EndOfParts row) = end_of_parts (Some (row_view row.now)) (length row.now.parts.now)
piece_view piece.Next = next
piece_view (piece.Label n) = part (label n.now)
piece_view (piece.Byte n) = part (byte n)
piece_view (piece.Word n) = part (word n)
piece_view (piece.Dword n) = part (dword n)
piece_view (piece.Qword n) = part (qword n)
piece_view (piece.Text bs) = part (text bs.now)
piece_view piece.Empty = tail empty
piece_view (piece.Bytes bs) = tail (bytes bs.now)
piece_view (piece.Body start len) = tail (body start len)
piece_view (piece.List k) = list k
piece_view (piece.EndOfList k level) = end_of_list k level
piece_view (piece.Line level) = line level
piece_view piece.EndOfLine = end_of_line
piece_view (piece.Field u) = field (field_view u.now)
piece_view piece.Link = link
piece_view piece.EndOfLink = end_of_link
