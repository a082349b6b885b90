-- The text of pieces: each by itself, so that what is told is printed as it comes.
use Rattle.std.specs.Prelude.{ℕ, zero, suc, cond, List, [], ◌++◌, Option, Some, None}
use Rattle.aml_code.specs.declared.rows.TailKind.{TailKind}
use Rattle.aml_code.specs.declared.rows.TailKind.TheVariants as kinds
use Rattle.aml_code.specs.Opcodes.{Row}
use Rattle.aml_code.specs.Pieces.{Told, absent, name, end_of_call, opcode, end_of_parts, next, part, tail, list}
use Rattle.aml_code.specs.Pieces.{end_of_list, line, end_of_line, field, link, end_of_link}
use Rattle.text_writer.specs.Prints.{word}
use Rattle.asl_text.specs.Texts.{name_text, is_constant, part_text, tail_text, field_text, indent}

-- the parentheses around so many arguments, if there are any
unfoldable pub opened : ℕ → List ℕ
opened zero = []
opened (suc n) = word " ("

unfoldable pub closed : ℕ → List ℕ
closed zero = []
closed (suc n) = word ")"

-- what stands before so many parts of an opcode, and behind them: a constant has neither
unfoldable pub row_opening : Option Row → ℕ → List ℕ
row_opening None n = []
row_opening (Some r) n = cond (is_constant r) [] (r.mnemonic ++ opened n)

unfoldable pub row_closing : Option Row → ℕ → List ℕ
row_closing None n = []
row_closing (Some r) n = cond (is_constant r) [] (closed n)

-- what stands before a tail of this kind, and, on a line of this level, behind it
abbrev pub list_opening : TailKind → List ℕ
list_opening kinds.Elements = word " {"
list_opening _ = word " {\n"

abbrev pub list_closing : TailKind → ℕ → List ℕ
list_closing kinds.Elements level = word "}"
list_closing _ level = indent level ++ word "}"

abbrev pub piece_text : Told → List ℕ
piece_text absent = []
piece_text (name n count) = name_text n ++ opened count
piece_text (end_of_call count) = closed count
piece_text (opcode o row w n) = row_opening row n
piece_text (end_of_parts row n) = row_closing row n
piece_text next = word ", "
piece_text (part p) = part_text p
piece_text (tail t) = tail_text t
piece_text (list k) = list_opening k
piece_text (end_of_list k level) = list_closing k level
piece_text (line level) = indent level
piece_text end_of_line = word "\n"
piece_text (field u) = field_text u
piece_text link = word "Connection ("
piece_text end_of_link = word ")"
