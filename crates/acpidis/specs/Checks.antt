-- What `check` says of each loaded table: its length, its methods, its raw bodies, and whether what was read encodes
-- to the same bytes again.
use Rattle.std.specs.Prelude.{ℕ, suc, nat_eq, Bool, true, false, ◌&&◌, List, [], ◌∷◌, ◌++◌, map, filter, zip}
use Rattle.std.specs.Prelude.{flat_map, length, decimal, ◌≡◌, Result, Ok, Err, ◌+◌, ◌<◌, cond, All, is_err, Vec}
use Rattle.std.specs.Global.{Global}
use Rattle.std.specs.List.{list_all, list_any, count_by}
use Rattle.aml_code.specs.Encoded.{same_bytes}
use Rattle.aml_code.specs.Tree.{encodings, Trees}
use Rattle.aml_load.specs.Loading.{methods_of}
use Rattle.aml_set.specs.Methods.{Method, methods_in, span_of}
use Rattle.aml_set.specs.Views.{codes_view}
use Rattle.aml_set.specs.declared.methods.Method.{Method as Kept}
use Rattle.asl_text.specs.Texts.{OneBody, read, raw, OneBlock, all_lines}
use Rattle.asl_text.specs.Bodies.{body_view}
use Rattle.aml_text.specs.Listing.{names_in, blocks_of, blocks_in}
use Rattle.aml_text.specs.declared.listing.Listing.{Listing}
use Rattle.text_writer.specs.Prints.{quoted, word}
use Rattle.acpi_tables.specs.declared.dump.Dump.{Dump}
use Rattle.acpidis.specs.Bodies.{is_raw, Reading, AreReadings}
use Rattle.acpidis.specs.Meaning.{Meaning, order_of, codes_of}
use Rattle.acpidis.specs.declared.checking.Checked.{Checked}
use Rattle.acpidis.specs.declared.checking.Mark.{Mark}
use Rattle.aml_names.specs.declared.faults.CodeFault.{CodeFault}
use Rattle.aml_set.specs.declared.tables.TableSet.{TableSet}

-- the terms of a body encode to its bytes; a raw body is its bytes
abbrev pub body_same : List ℕ → OneBody → Bool
body_same bytes (read ts) = same_bytes (encodings bytes ts) bytes
body_same bytes raw = true

-- what is said of a method with its body: the number of its table, and whether the body is raw, and the same
abbrev pub mark_of : List (List ℕ) → Method × OneBody → Mark
mark_of codes p = record { table = p.0.table; raw = is_raw p.1; same = body_same (span_of codes p.0) p.1 }

-- the marks of all methods, with their bodies
abbrev pub marks_of : List (List ℕ) → List Method → List OneBody → List Mark
marks_of codes ms bs = map (mark_of codes) (zip ms bs)

-- the marks of table t's methods
abbrev pub marks_in : ℕ → List Mark → List Mark
marks_in t marks = filter (λ m. nat_eq m.table t) marks

-- what is said of a table before its methods are counted
abbrev pub uncounted : OneBlock → Checked
uncounted b = record {
  bytes = length b.code;
  methods = 0;
  raw = 0;
  same = same_bytes (encodings b.code b.terms) b.code;
}

-- a table with its methods counted
abbrev pub tally : List Mark → Checked → Checked
tally inside c =
    record {
      bytes = c.bytes;
      methods = c.methods + length inside;
      raw = c.raw + count_by (λ m. m.raw) inside;
      same = c.same && list_all (λ m. m.same) inside;
    }

-- what `check` says of the tables from number t on, by the marks of the methods
abbrev pub tallied : List Mark → ℕ → List Checked → List Checked
tallied marks t [] = []
tallied marks t (c ∷ cs) = tally (marks_in t marks) c ∷ tallied marks (suc t) cs

-- what is said of the tables of these blocks, by what is said of their methods
abbrev pub checks_with : List OneBlock → List Mark → List Checked
checks_with blocks marks = tallied marks 0 (map uncounted blocks)

-- of a listing in memory
abbrev pub checks_of : Listing → List Checked
checks_of x =
    checks_with (blocks_in x)
    (marks_of (codes_view x.loaded.tables.items) (methods_in x.loaded.space x.loaded.methods.items) (map body_view x.bodies.items))

-- whether all tables are the same
abbrev pub all_same : List Checked → Bool
all_same cs = list_all (λ c. c.same) cs

-- ---- The lines of `check`.

-- ` Same`, always so of what dumps mean; ` Differs`
abbrev pub same_word : Bool → List ℕ
same_word true = word " Same\n"
same_word false = word " Differs\n"

unfoldable pub check_head : List ℕ → Checked → List ℕ
check_head name c = (word "Check " ++ quoted name) ++ (word " Bytes " ++ decimal c.bytes)
    ++ (word " Methods " ++ decimal c.methods)

-- the line of a table, by its file's name: `Check "FILE" Bytes N Methods N Raw N Same`
unfoldable pub check_line : List ℕ → Checked → List ℕ
check_line name c = check_head name c ++ (word " Raw " ++ decimal c.raw) ++ same_word c.same

-- the lines of tables
abbrev pub check_lines : List OneBlock → List Checked → List ℕ
check_lines blocks cs = flat_map (λ p. check_line p.0.name p.1) (zip blocks cs)

-- the lines of a listing
abbrev pub checks_text : List Dump → Meaning → List ℕ
checks_text dumps k =
    let codes = codes_of dumps k in
    let blocks = blocks_of (names_in dumps (order_of k)) codes k.trees in
    check_lines blocks (checks_with blocks (marks_of codes (methods_of k.entries) k.bodies))

-- ---- A stepping stone of the proofs: what a run keeps of each body, whose terms it lets go.

-- of a body that reads as terms what they give, of a raw one its fault
abbrev pub IsKept : {X : Type 0} → (Trees → X → Type 0) → Reading → Result X CodeFault → Type 0
IsKept Gives (Ok ts) (Ok x) = Gives ts x
IsKept Gives (Err fault) (Err kept) = kept ≡ fault
IsKept Gives _ _ = ⊥

-- these are the lines of the terms, without an indent
abbrev pub AreLines : Trees → Vec ℕ Global → Type 0
AreLines ts text = text.items ≡ all_lines 0 ts

-- whether terms encode to these bytes
abbrev pub IsSame : List ℕ → Trees → Bool → Type 0
IsSame bytes ts same = same ≡ same_bytes (encodings bytes ts) bytes

-- of each body, by its number
abbrev pub AreKept : {X : Type 0} → (ℕ → Reading → X → Type 0) → List Reading → List X → Type 0
AreKept Keeps [] [] = Unit {0}
AreKept Keeps (r ∷ rs) (d ∷ ds) = Keeps 0 r d × AreKept (λ n. Keeps (suc n)) rs ds
AreKept Keeps _ _ = ⊥

-- of those of a loaded set
abbrev pub AreKeptOf : {X : Type 0} → (ℕ → Reading → X → Type 0) → Bool → TableSet → List X → Type 0
AreKeptOf Keeps z x ds = (rs : List Reading) × AreReadings z x rs × AreKept Keeps rs ds

-- whether a fault is kept
abbrev pub has_fault : {X : Type 0} → List (Result X CodeFault) → Bool
has_fault ds = list_any is_err ds

-- what is said of a method by what was tried of its body, in a table, and of methods
abbrev pub tried_mark : ℕ → Result Bool CodeFault → Mark
tried_mark table (Ok same) = record { table = table; raw = false; same = same }
tried_mark table (Err fault) = record { table = table; raw = true; same = true }

abbrev pub tried_marks : List Kept → List (Result Bool CodeFault) → List Mark
tried_marks ms ds = map (λ p. tried_mark p.0.table p.1) (zip ms ds)

-- of a table by its AML and its terms, before its methods are counted
abbrev pub first_check : List ℕ → Trees → Checked
first_check code ts = uncounted (record { name = []; code = code; terms = ts })

-- ---- A stepping stone of the proofs of `check`: the methods of tables, counted one after the other.

-- both counts are below n, and those of each table are
abbrev pub IsUnder : ℕ → Checked → Type 0
IsUnder n c = (c.methods < n) × (c.raw < n)

abbrev pub Under : ℕ → List Checked → Type 0
Under n cs = All (IsUnder n) cs

-- one method more
abbrev pub added : Mark → Checked → Checked
added m c = record {
  bytes = c.bytes;
  methods = c.methods + 1;
  raw = c.raw + cond m.raw 1 0;
  same = c.same && m.same;
}
