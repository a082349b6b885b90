-- What is said of tables that were told is said of the tables that the dumps load to.
use Rattle.acpidis.proofs.Common.{◌≡◌, ◌≤◌, ℕ, List, [], ◌∷◌, ◌++◌, map, length, refl, ap, ap₂, Trees, Dump, Options, Table}
use Rattle.acpidis.proofs.Common.{TableSet, AreShort, table_codes, table_dumps, table_terms, names_in, blocks_of, uncounted}
use Rattle.acpidis.proofs.Common.{check_line, check_lines, checks_with, tallied, Checked, Mark, Bool, first_check, same_bytes, ◌∙◌}
use Rattle.acpi_tables.specs.Order.{name_of}
use Rattle.aml_code.specs.Pieces.{Told, line_pieces}
use Rattle.aml_code.specs.Tree.{encodings}
use Rattle.aml_load.specs.Kept.{AreKeptOf}
use Rattle.aml_set.proofs.TableLaws.{are_short}
use Rattle.acpidis.specs.Told.{AreFirst, IsKeptSet, IsTriedSet}
use Rattle.acpidis.specs.declared.trials.Trials.{Trials}

-- what is kept of a table
abbrev keeps : Trials → List ℕ → List Told → Checked → Type 0
keeps s code ps checked = length code ≤ 16777216 → (level : ℕ) (ts : Trees) → ps ≡ line_pieces level ts
    → checked ≡ first_check code ts

pub first_is : (code : List ℕ) (ts : Trees) (c : Checked) (same : Bool)
    → c ≡ record { bytes = length code; methods = 0; raw = 0; same = same } → same ≡ same_bytes (encodings code ts) code
    → c ≡ first_check code ts
first_is code ts c same is so = is ∙ (λ i. record { bytes = length code; methods = 0; raw = 0; same = so i })

firsts_kept : (s : Trials) (codes : List (List ℕ)) (trees : List Trees) (cs : List Checked) → AreShort codes
    → AreKeptOf keeps s codes trees cs → AreFirst codes trees cs
firsts_kept s [] [] [] short are = tt
firsts_kept s [] [] (c ∷ cs) short are = absurd are
firsts_kept s [] (ts ∷ trees) cs short are = absurd are
firsts_kept s (code ∷ codes) [] cs short are = absurd are
firsts_kept s (code ∷ codes) (ts ∷ trees) [] short are = absurd are
firsts_kept s (code ∷ codes) (ts ∷ trees) (c ∷ cs) short are =
    (are.0 short.0 1 ts refl, firsts_kept s codes trees cs short.1 are.1)

pub tried_set : (s : Trials) (dumps : List Dump) (options : Options) (x : TableSet) (cs : List Checked)
    → IsKeptSet keeps s dumps options x cs → IsTriedSet dumps options x cs
tried_set s dumps options x cs (trees, (from, kept)) =
    (trees, (from, firsts_kept s (table_codes x.tables.items) trees cs (are_short x.tables.items) kept))

module _ (dumps : List Dump) where
  -- it is what is said of their blocks
  pub firsts_are : (ts : List Table) (trees : List Trees) (cs : List Checked) → AreFirst (table_codes ts) trees cs
      → cs ≡ map uncounted (blocks_of (names_in dumps (table_dumps ts)) (table_codes ts) trees)
  firsts_are [] [] [] are = refl
  firsts_are [] [] (c ∷ cs) are = absurd are
  firsts_are [] (u ∷ us) cs are = absurd are
  firsts_are (t ∷ ts) [] cs are = absurd are
  firsts_are (t ∷ ts) (u ∷ us) [] are = absurd are
  firsts_are (t ∷ ts) (u ∷ us) (c ∷ cs) are = ap₂ ◌∷◌ are.0 (firsts_are ts us cs are.1)

  -- and the lines of blocks go by their names alone
  pub lines_are : (ts : List Table) (trees : List Trees) (firsts cs : List Checked) → AreFirst (table_codes ts) trees firsts
      → check_lines (blocks_of (names_in dumps (table_dumps ts)) (table_codes ts) (table_terms ts)) cs
      ≡ check_lines (blocks_of (names_in dumps (table_dumps ts)) (table_codes ts) trees) cs
  lines_are [] [] firsts cs are = refl
  lines_are [] (u ∷ us) firsts cs are = absurd are
  lines_are (t ∷ ts) [] firsts cs are = absurd are
  lines_are (t ∷ ts) (u ∷ us) [] cs are = absurd are
  lines_are (t ∷ ts) (u ∷ us) (f ∷ firsts) [] are = refl
  lines_are (t ∷ ts) (u ∷ us) (f ∷ firsts) (c ∷ cs) are =
      ap (λ l. check_line (name_of dumps t.dump) c ++ l) (lines_are ts us firsts cs are.1)

  -- so with the methods counted it is what is said of these blocks, and its lines are theirs
  pub checks_are : (ts : List Table) (trees : List Trees) (firsts cs : List Checked) (marks : List Mark)
      → AreFirst (table_codes ts) trees firsts → cs ≡ tallied marks 0 firsts
      → cs ≡ checks_with (blocks_of (names_in dumps (table_dumps ts)) (table_codes ts) trees) marks
  checks_are ts trees firsts cs marks are is = is ∙ ap (tallied marks 0) (firsts_are ts trees firsts are)

  pub lines_said : (ts : List Table) (trees : List Trees) (firsts cs : List Checked) (marks : List Mark)
      → AreFirst (table_codes ts) trees firsts → cs ≡ tallied marks 0 firsts
      → check_lines (blocks_of (names_in dumps (table_dumps ts)) (table_codes ts) (table_terms ts)) cs
      ≡ check_lines (blocks_of (names_in dumps (table_dumps ts)) (table_codes ts) trees)
      (checks_with (blocks_of (names_in dumps (table_dumps ts)) (table_codes ts) trees) marks)
  lines_said ts trees firsts cs marks are is =
      lines_are ts trees firsts cs are
      ∙ ap (check_lines (blocks_of (names_in dumps (table_dumps ts)) (table_codes ts) trees)) (checks_are ts trees firsts cs marks are is)
