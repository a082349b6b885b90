-- The definition blocks of tables: as many as each of their lists has, and at each place the block of the name, the AML
-- and the terms there. So a loop over the places prints them all.
use Rattle.aml_text.proofs.Common.{◌≡◌, ℕ, zero, suc, ◌+◌, ◌<◌, List, [], ◌∷◌, ◌++◌, length, get_or, zip, min, drop}
use Rattle.aml_text.proofs.Common.{refl, sym, ap, ◌∙◌, append_assoc, arith, length-map, drop_more, length-zip}
use Rattle.aml_text.proofs.Common.{nodes_view, Dump, name_of, Table, table_dumps, table_codes, table_terms, OneBlock}
use Rattle.aml_text.proofs.Common.{BodyLines, left_all, block_text, blocks_text, names_in, a_block, blocks_of}
use Rattle.aml_code.specs.Tree.{Trees}

pub blocks_many : (names codes : List (List ℕ)) (terms : List Trees)
    → length (blocks_of names codes terms) ≡ min (length names) (min (length codes) (length terms))
blocks_many names codes terms =
    length-map (zip names (zip codes terms)) a_block ∙ length-zip names (zip codes terms) ∙ ap (min (length names)) (length-zip codes terms)

-- what a place has is the block there
pub block_there : (names codes : List (List ℕ)) (terms : List Trees) (i : ℕ) (name code : List ℕ) (ts : Trees) (other : OneBlock)
    → i < length (blocks_of names codes terms) → name ≡ get_or names i name → code ≡ get_or codes i code
    → ts ≡ get_or terms i ts
    → record { name = name; code = code; terms = ts } ≡ get_or (blocks_of names codes terms) i other
block_there [] codes terms i name code ts other inside p q r = absurd (omega (arith, inside))
block_there (n ∷ names) [] terms i name code ts other inside p q r = absurd (omega (arith, inside))
block_there (n ∷ names) (c ∷ codes) [] i name code ts other inside p q r = absurd (omega (arith, inside))
block_there (n ∷ names) (c ∷ codes) (t ∷ terms) zero name code ts other inside p q r = λ k. record { name = p k; code = q k; terms = r k }
block_there (n ∷ names) (c ∷ codes) (t ∷ terms) (suc i) name code ts other inside p q r =
    block_there names codes terms i name code ts other (omega (arith, inside)) p q r

-- those of tables in one list
module _ (dumps : List Dump) where
  abbrev of_tables : List Table → List OneBlock
  of_tables ts = blocks_of (names_in dumps (table_dumps ts)) (table_codes ts) (table_terms ts)

  pub tables_many : (ts : List Table) → length (of_tables ts) ≡ length ts
  tables_many [] = refl
  tables_many (t ∷ ts) = ap suc (tables_many ts)

  pub table_there : (ts : List Table) (i : ℕ) (t : Table) (name : List ℕ) (other : OneBlock) → i < length ts
      → t ≡ get_or ts i t → name ≡ name_of dumps t.dump
      → record { name = name; code = t.code.now; terms = nodes_view t.terms.items } ≡ get_or (of_tables ts) i other
  table_there [] i t name other inside is n = absurd (omega (arith, inside))
  table_there (x ∷ ts) zero t name other inside is n =
      (λ k. record { name = n k; code = t.code.now; terms = nodes_view t.terms.items })
      ∙ ap (λ (t : Table). record { name = name_of dumps t.dump; code = t.code.now; terms = nodes_view t.terms.items }) is
  table_there (x ∷ ts) (suc i) t name other inside is n = table_there ts i t name other (omega (arith, inside)) is n

-- the block at a place is printed, and those behind it are still to be
pub blocks_turn : (blocks : List OneBlock) (i : ℕ) (b : OneBlock) (bs rest : List BodyLines) (done total : List ℕ)
    → i < length blocks → b ≡ get_or blocks i b
    → rest ≡ left_all b.terms bs → done ++ blocks_text (drop i blocks) bs ≡ total
    → (done ++ block_text b.name b.code b.terms bs) ++ blocks_text (drop (i + 1) blocks) rest ≡ total
blocks_turn blocks i b bs rest done total inside is e so_far =
    let first = block_text b.name b.code b.terms bs in
    let cut : drop i blocks ≡ b ∷ drop (i + 1) blocks = drop_more blocks i b inside ∙ ap (λ x. x ∷ drop (i + 1) blocks) (sym is) in
    ap (λ (r : List BodyLines). (done ++ first) ++ blocks_text (drop (i + 1) blocks) r) e
    ∙ append_assoc done first (blocks_text (drop (i + 1) blocks) (left_all b.terms bs))
    ∙ ap (λ left. done ++ blocks_text left bs) (sym cut) ∙ so_far
