-- Tables of which texts are kept print as those that keep the terms.
use Rattle.aml_text.proofs.Common.{◌≡◌, ℕ, List, [], ◌∷◌, ◌++◌, Option, None, Some, drop, refl, ap, ◌∙◌, Dump, name_of}
use Rattle.aml_text.proofs.Common.{BodyLines, Table, table_dumps, table_codes, table_terms, names_in, blocks_of}
use Rattle.aml_text.proofs.Common.{blocks_text, block_text, left_all, levels_of, all_levels}
use Rattle.aml_code.specs.Tree.{Trees}
use Rattle.asl_text.proofs.ToldTables.{told_block, told_left, told_levels}
use Rattle.asl_text.specs.declared.tables.TableText.{TableText}
use Rattle.aml_text.specs.Told.{AreTold, IsToldBy, first_text, kept_blocks, levels_kept, table_left, table_levels, table_text}

-- a table whose terms are these: its block, the bodies that it leaves, and their levels
module _ (t : Table) (x : Trees) where
  block_told : (text : Option TableText) → IsToldBy t text x → (name : List ℕ) (bs : List BodyLines)
      → table_text name t text bs ≡ block_text name t.code.now x bs
  block_told (Some text) told name bs = told_block t.code.now x text told name bs
  block_told None told name bs = ap (λ (ts : Trees). block_text name t.code.now ts bs) told

  left_told : (text : Option TableText) → IsToldBy t text x → (bs : List BodyLines) → table_left t text bs ≡ left_all x bs
  left_told (Some text) told bs = told_left t.code.now x text told bs
  left_told None told bs = ap (λ (ts : Trees). left_all ts bs) told

  levels_told : (text : Option TableText) → IsToldBy t text x → table_levels t text ≡ all_levels 1 x
  levels_told (Some text) told = told_levels t.code.now x text told
  levels_told None told = ap (all_levels 1) told

pub kept_is : (dumps : List Dump) (tables : List Table) (texts : List (Option TableText)) (trees : List Trees) (bs : List BodyLines)
    → AreTold tables texts trees
    → kept_blocks dumps tables texts bs ≡ blocks_text (blocks_of (names_in dumps (table_dumps tables)) (table_codes tables) trees) bs
kept_is dumps [] texts [] bs told = refl
kept_is dumps [] texts (x ∷ xs) bs told = absurd told
kept_is dumps (t ∷ ts) texts [] bs told = absurd told
kept_is dumps (t ∷ ts) texts (x ∷ xs) bs told =
    let first = block_told t x (first_text texts) told.0 (name_of dumps t.dump) bs in
    let rest = kept_is dumps ts (drop 1 texts) xs (table_left t (first_text texts) bs) told.1
    ∙ ap (blocks_text (blocks_of (names_in dumps (table_dumps ts)) (table_codes ts) xs)) (left_told t x (first_text texts) told.0 bs) in
    λ i. first i ++ rest i

pub levels_are : (tables : List Table) (texts : List (Option TableText)) (trees : List Trees) → AreTold tables texts trees
    → levels_kept tables texts ≡ levels_of trees
levels_are [] texts [] told = refl
levels_are [] texts (x ∷ xs) told = absurd told
levels_are (t ∷ ts) texts [] told = absurd told
levels_are (t ∷ ts) texts (x ∷ xs) told =
    let first = levels_told t x (first_text texts) told.0 in
    let rest = levels_are ts (drop 1 texts) xs told.1 in
    λ i. first i ++ rest i

-- where no text is kept, the terms are those that the tables keep
pub terms_told : (tables : List Table) → AreTold tables [] (table_terms tables)
terms_told [] = tt
terms_told (t ∷ ts) = (refl, terms_told ts)
