-- The tables of an order: each has a header, and no more bytes than a dump may have, and so has its AML.
use Rattle.acpidis.proofs.Common.{length-append, length-drop, take-append-drop, ℕ, zero, suc, ◌<◌, ◌≤◌, length, get_or}
use Rattle.acpidis.proofs.Common.{take, drop, arith, List, [], ◌∷◌, sym}
use Rattle.acpidis.proofs.Common.{ap, ◌∙◌, Dump, HoldsTable, table_of, AreTables, bytes_of}
use Rattle.acpi_tables.specs.Bytes.{number_at}
use Rattle.acpi_tables.specs.Dumps.{most_bytes}

-- a table of an order has a header
pub table_at : (dumps : List Dump) (order : List ℕ) (i : ℕ) → i < length order → AreTables dumps order
    → HoldsTable (bytes_of dumps (get_or order i 0))
table_at dumps [] i h t = absurd (omega (arith, h))
table_at dumps (x ∷ order) zero h t = t.0
table_at dumps (x ∷ order) (suc i) h t = table_at dumps order i (omega (arith, h)) t.2

-- the AML of a definition block
abbrev pub aml_of : List ℕ → List ℕ
aml_of bytes = drop 36 (table_of bytes)

pub aml_within : (bytes : List ℕ) → length (aml_of bytes) ≤ length bytes
aml_within bytes =
    let n = number_at bytes 4 4 in
    let whole = sym (length-append (take n bytes) (drop n bytes)) ∙ ap length (take-append-drop n bytes) in
    omega (arith, whole, length-drop 36 (table_of bytes))

-- and no more bytes than a dump may have
pub short_at : (dumps : List Dump) (order : List ℕ) (i : ℕ) → i < length order → AreTables dumps order
    → length (bytes_of dumps (get_or order i 0)) ≤ most_bytes
short_at dumps [] i h t = absurd (omega (arith, h))
short_at dumps (x ∷ order) zero h t = t.1
short_at dumps (x ∷ order) (suc i) h t = short_at dumps order i (omega (arith, h)) t.2
