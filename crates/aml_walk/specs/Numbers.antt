-- The numbers of constants (ACPI 6.5, 20.2.3).
use Rattle.std.specs.Prelude.{ℕ, Option, Some, None, if◌then◌else◌, ◌==◌}
use Rattle.aml_code.specs.Tree.{Tree, op, Part, byte, word, dword, qword, Parts, no_parts, part_more}

-- ZeroOp, OneOp and OnesOp. Ones has all 64 bits set (19.6.99).
abbrev pub plain_number : ℕ → Option ℕ
plain_number o = if o == 0x00 then Some 0 else if o == 0x01 then Some 1 else
    if o == 0xFF then Some 0xFFFFFFFFFFFFFFFF else None

-- ByteConst, WordConst, DWordConst and QWordConst
abbrev pub part_number : ℕ → Part → Option ℕ
part_number o (byte n) = if o == 0x0A then Some n else None
part_number o (word n) = if o == 0x0B then Some n else None
part_number o (dword n) = if o == 0x0C then Some n else None
part_number o (qword n) = if o == 0x0E then Some n else None
part_number o _ = None

abbrev pub spelled_number : ℕ → Parts → Option ℕ
spelled_number o no_parts = plain_number o
spelled_number o (part_more p no_parts) = part_number o p
spelled_number o _ = None

-- the number of a term that is a constant
abbrev pub number_of : Tree → Option ℕ
number_of (op o w ps t) = spelled_number o ps
number_of _ = None
