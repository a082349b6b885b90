-- The first part of a listing: what it says of each dump. The fields are those of ACPI 6.5, sections 5.2.5 to 5.2.12.
use Rattle.std.specs.Prelude.{ℕ, Bool, nat_eq, if◌then◌else◌, decimal, codes, List, [], ◌++◌, flat_map, map, drop}
use Rattle.std.specs.Prelude.{reverse, length, Option, Some, None, option_map, unwrap_or, string_bytes}
use Rattle.std.specs.List.{range_with_len}
use Rattle.acpi_tables.specs.Bytes.{little_endian, number_at, Field, field_bytes}
use Rattle.acpi_tables.specs.Header.{table_of, header_of, rsdp_of, address_bytes, address_count}
use Rattle.acpi_tables.specs.Fadt.{fadt_fields}
use Rattle.acpi_tables.specs.Madt.{Row, row_of, records_of, kind_of as record_kind}
use Rattle.acpi_tables.specs.Dumps.{kind_of, sums_hold}
use Rattle.acpi_tables.specs.Order.{dump_at, name_of}
use Rattle.acpi_tables.specs.declared.dump.Content.TheVariants.{Xsdt, Rsdt, Fadt, Madt}
use Rattle.acpi_tables.specs.declared.dump.Dump.{Dump}
use Rattle.acpi_tables.specs.declared.dump.Kind.{Kind}
use Rattle.acpi_tables.specs.declared.dump.Kind.TheVariants.{Root, Facs, Standard}
use Rattle.acpi_tables.specs.declared.fields.Base.{Base}
use Rattle.acpi_tables.specs.declared.fields.Base.TheVariants.{Decimal, Hexadecimal}
use Rattle.acpi_tables.specs.declared.header.Header.{Header}
use Rattle.acpi_tables.specs.declared.rsdp.Rsdp.{Rsdp}
use Rattle.acpi_tables.specs.declared.rsdp.Wide.{Wide}
use Rattle.text_writer.specs.Prints.{word, hex2, hex8, hex16, quoted}

-- a line one level below that of its dump
abbrev pub below : List ℕ → List ℕ
below text = word "  " ++ text ++ word "\n"

-- what may be absent, and is nothing then
abbrev pub if_there : {X : Type 0} → (X → List ℕ) → Option X → List ℕ
if_there text x = unwrap_or (option_map text x) []

-- ---- the line of a dump. Each definition quotes what it gives.

-- ` Length N Xsdt XXXXXXXXXXXXXXXX`, which revision 2 added to the RSDP
abbrev pub wide_text : Wide → List ℕ
wide_text w = (word " Length " ++ decimal w.length) ++ (word " Xsdt " ++ hex16 w.xsdt)

-- ` Oem "OEMID" Revision N Rsdt XXXXXXXX`, and what revision 2 added
unfoldable pub root_text : Rsdp → List ℕ
root_text r =
    (word " Oem " ++ quoted r.oem)
    ++ (word " Revision " ++ decimal r.revision)
    ++ (word " Rsdt " ++ hex8 r.rsdt)
    ++ if_there wide_text r.wide

-- ` "SIGN" Length N Revision N Oem "OEMID" "OEMTABLE" XXXXXXXX Creator "CREA" XXXXXXXX`
unfoldable pub header_text : Header → List ℕ
header_text h =
    (word " " ++ quoted h.signature)
    ++ (word " Length " ++ decimal h.length)
    ++ (word " Revision " ++ decimal h.revision)
    ++ (word " Oem " ++ quoted h.oem_id)
    ++ (word " " ++ quoted h.oem_table_id)
    ++ (word " " ++ hex8 h.oem_revision)
    ++ (word " Creator " ++ quoted h.creator_id)
    ++ (word " " ++ hex8 h.creator_revision)

-- `Root "FILE"` or `Table "FILE"`, and one of these; of a FACS ` "FACS" Length N`
abbrev pub head_by : Kind → List ℕ → List ℕ → List ℕ
head_by Root name bytes = (word "Root " ++ quoted name) ++ root_text (rsdp_of bytes)
head_by Facs name bytes = (word "Table " ++ quoted name)
    ++ ((word " " ++ quoted (codes "FACS")) ++ (word " Length " ++ decimal (number_at bytes 4 4)))
head_by (Standard content) name bytes = (word "Table " ++ quoted name) ++ header_text (header_of bytes)

-- ` At XXXXXXXXXXXXXXXX`, where the address is known
abbrev pub address_text : Option ℕ → List ℕ
address_text address = if_there (λ a. word " At " ++ hex16 a) address

-- ` BadSum`, where a checksum is wrong
abbrev pub sum_text : Bool → List ℕ
sum_text holds = if holds then [] else word " BadSum"

unfoldable pub line_by : Kind → Dump → List ℕ
line_by kind d = head_by kind (string_bytes d.name) d.bytes.items
    ++ (address_text d.address ++ sum_text (sums_hold kind d.bytes.items) ++ word "\n")

-- ---- the lines below it

-- ` "FILE"`: the first dump at an address, where there is one
abbrev pub owner_text : List Dump → ℕ → List ℕ
owner_text dumps address = if_there (λ i. word " " ++ quoted (name_of dumps i)) (dump_at dumps address)

-- `Entry XXXXXXXX "FILE"`: an address of an RSDT, and of an XSDT with 16 digits
unfoldable pub entry_text : List Dump → List ℕ → List ℕ
entry_text dumps bytes = word "Entry " ++ flat_map hex2 (reverse bytes) ++ owner_text dumps (little_endian bytes)

abbrev pub entry_line : List Dump → List ℕ → List ℕ
entry_line dumps bytes = below (entry_text dumps bytes)

unfoldable pub entry_lines : List Dump → ℕ → List ℕ → List ℕ
entry_lines dumps width table =
    flat_map (entry_line dumps) (map (address_bytes width table) (range_with_len 0 (address_count width table)))

-- `LABEL N` or `LABEL XX`: a field, in decimal digits or with two hexadecimal digits a byte, the highest first; some
-- have no label
abbrev pub value_text : Base → List ℕ → List ℕ
value_text Decimal bytes = decimal (little_endian bytes)
value_text Hexadecimal bytes = flat_map hex2 (reverse bytes)

abbrev pub label_text : List ℕ → List ℕ
label_text label = if nat_eq (length label) 0 then [] else label ++ word " "

unfoldable pub labelled : Field → List ℕ → List ℕ
labelled f bytes = label_text f.label ++ value_text f.base bytes

-- the fields that the bytes reach to, each between these words: a line of a FADT for each, `  LABEL XX`, or those of a
-- record of a MADT behind its name, ` LABEL N LABEL XX ..`
abbrev pub field_text : List ℕ → List ℕ → List ℕ → Field → List ℕ
field_text before behind bytes f = if_there (λ value. before ++ labelled f value ++ behind) (field_bytes bytes f)

unfoldable pub fields_text : List ℕ → List ℕ → List ℕ → List Field → List ℕ
fields_text before behind bytes fields = flat_map (field_text before behind bytes) fields

-- ` XX`
unfoldable pub spaced_byte : ℕ → List ℕ
spaced_byte byte = word " " ++ hex2 byte

-- `Record N Length N XX XX ..`: a record of no known type and length, with the bytes behind them
unfoldable pub other_text : List ℕ → List ℕ
other_text bytes =
    (word "Record " ++ decimal (record_kind bytes))
    ++ (word " Length " ++ decimal (length bytes))
    ++ flat_map spaced_byte (drop 2 bytes)

-- `NAME LABEL N ..`: a record of a known one
abbrev pub record_text_by : Option Row → List ℕ → List ℕ
record_text_by None bytes = other_text bytes
record_text_by (Some r) bytes = r.name ++ fields_text (word " ") [] bytes r.fields

abbrev pub record_line : List ℕ → List ℕ
record_line bytes = below (record_text_by (row_of bytes) bytes)

-- `  Controller XXXXXXXX Flags XXXXXXXX` below a MADT, and a line for each record
unfoldable pub madt_lines : List ℕ → List ℕ
madt_lines table = (word "  Controller " ++ hex8 (number_at table 36 4))
    ++ (word " Flags " ++ hex8 (number_at table 40 4)) ++ word "\n" ++ flat_map record_line (records_of table)

-- the lines below that of a dump
abbrev pub lines_by : Kind → List Dump → List ℕ → List ℕ
lines_by (Standard Xsdt) dumps bytes = entry_lines dumps 8 (table_of bytes)
lines_by (Standard Rsdt) dumps bytes = entry_lines dumps 4 (table_of bytes)
lines_by (Standard Fadt) dumps bytes = fields_text (word "  ") (word "\n") (table_of bytes) fadt_fields
lines_by (Standard Madt) dumps bytes = madt_lines (table_of bytes)
lines_by _ dumps bytes = []

-- ---- a dump, and all of them

unfoldable pub dump_lines : List Dump → Dump → List ℕ
dump_lines dumps d = line_by (kind_of d.bytes.items) d ++ lines_by (kind_of d.bytes.items) dumps d.bytes.items

abbrev pub dumps_text : List Dump → List ℕ
dumps_text dumps = flat_map (dump_lines dumps) dumps
