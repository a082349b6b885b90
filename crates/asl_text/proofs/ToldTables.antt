-- A definition block of which the text was told is that of the table's terms.
use Rattle.asl_text.proofs.Common.{◌≡◌, [], ◌++◌, ℕ, List, length, drop, sym, ap, ◌∙◌, quoted, word, block}
use Rattle.std.proofs.lemmas.List.{length-map}
use Rattle.aml_code.specs.Tree.{Trees}
use Rattle.asl_text.proofs.StepLaws.{woven_lines}
use Rattle.asl_text.specs.Tables.{IsTold, place_levels, told_block_text, woven}
use Rattle.asl_text.specs.Texts.{BodyLines, all_levels, block_text, left_all}
use Rattle.asl_text.specs.declared.tables.Place.{Place}
use Rattle.asl_text.specs.declared.tables.TableText.{TableText}

module _ (code : List ℕ) (ts : Trees) (text : TableText) (told : IsTold code ts text) where
  -- the levels of its places are those of the bodies
  pub told_levels : place_levels text.places.items ≡ all_levels 1 ts
  told_levels = ap place_levels told.1.1 ∙ (woven_lines code [] 1 ts told.0).1

  pub told_left : (bs : List BodyLines) → drop (length text.places.items) bs ≡ left_all ts bs
  told_left bs =
      ap (λ (n : ℕ). drop n bs)
      (sym (length-map text.places.items (λ (p : Place). p.level)) ∙ ap length told_levels)

  pub told_block : (name : List ℕ) (bs : List BodyLines) → told_block_text name code text bs ≡ block_text name code ts bs
  told_block name bs =
      ap (block 0 (word "DefinitionBlock (" ++ quoted name ++ word ")"))
      ((λ i. woven code bs (told.1.0 i) 0 (told.1.1 i)) ∙ (woven_lines code bs 1 ts told.0).0)
