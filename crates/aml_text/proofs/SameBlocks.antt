-- Bodies that print the same lines at their levels give the same blocks.
use Rattle.aml_text.proofs.Common.{◌≡◌, ℕ, List, [], ◌∷◌, ◌++◌, refl, ap, word, quoted, block, BodyLines, all_levels}
use Rattle.aml_text.proofs.Common.{levels_of, left_all, block_text, blocks_text, blocks_of}
use Rattle.aml_code.specs.Tree.{Trees}
use Rattle.asl_text.proofs.LevelLaws.{AgreeAt, same_all, behind_agree}

-- the blocks of tables are the same with both
pub same_blocks : (names codes : List (List ℕ)) (trees : List Trees) (fs gs : List BodyLines)
    → AgreeAt (levels_of trees) fs gs
    → blocks_text (blocks_of names codes trees) fs ≡ blocks_text (blocks_of names codes trees) gs
same_blocks [] codes trees fs gs a = refl
same_blocks (n ∷ names) [] trees fs gs a = refl
same_blocks (n ∷ names) (c ∷ codes) [] fs gs a = refl
same_blocks (n ∷ names) (c ∷ codes) (ts ∷ trees) fs gs a =
    let first : block_text n c ts fs ≡ block_text n c ts gs =
    ap (block 0 (word "DefinitionBlock (" ++ quoted n ++ word ")")) (same_all c 1 ts (levels_of trees) fs gs a) in
    let rest = same_blocks names codes trees (left_all ts fs) (left_all ts gs) (behind_agree (all_levels 1 ts) (levels_of trees) fs gs a) in
    λ i. first i ++ rest i
