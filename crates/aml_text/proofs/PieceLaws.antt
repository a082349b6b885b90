-- The texts of pieces, one behind the other, are the lines of the rows.
use Rattle.aml_text.proofs.Common.{◌≡◌, ℕ, suc, ◌+◌, ◌≤◌, List, [], ◌∷◌, ◌++◌, flat_map, length, drop, sym, ap}
use Rattle.aml_text.proofs.Common.{◌∙◌, arith, refl, true≢false, is_some, Some, slice_get, append-nil, Seg, row_line}
use Rattle.std.specs.Prelude.{◌*◌, false, nat_eq, take, Vec}
use Rattle.std.specs.Global.{Global}
use Rattle.std.proofs.lemmas.List.{take-append-drop, length-drop, drop-drop}
use Rattle.std.proofs.lemmas.List.Concat.{flat_map-append}
use Rattle.aml_namespace.specs.Known.{Declared}
use Rattle.aml_text.specs.Rows.{lines_by, piece_of}

pub pieces_are : (rows : List (List Seg × Declared)) (texts : List (Vec ℕ Global)) → length rows ≤ length texts * 512
    → ((n : ℕ) (text : Vec ℕ Global) → slice_get texts n ≡ Some text → text.items ≡ flat_map row_line (piece_of rows n))
    → flat_map (λ t. t.items) texts ≡ flat_map row_line rows
pieces_are [] [] few each = refl
pieces_are (row ∷ rows) [] few each = absurd (omega (arith, few))
pieces_are rows (text ∷ texts) few each =
    let rest = pieces_are (drop 512 rows) texts (omega (arith, few, length-drop 512 rows))
    (λ n t is. each (suc n) t is ∙ ap (λ r. flat_map row_line (take 512 r))
    (ap (λ k. drop k rows) {x = suc n * 512} {y = 512 + n * 512} (omega arith) ∙ sym (drop-drop (n * 512) 512 rows))) in
    (λ i. each 0 text refl i ++ rest i)
    ∙ sym (flat_map-append row_line (take 512 rows) (drop 512 rows))
    ∙ ap (flat_map row_line) (take-append-drop 512 rows)

-- where no row is left to be printed, the texts are the lines of all
pub pieces_all : (all left : List (List Seg × Declared)) (texts : List (Vec ℕ Global))
    → flat_map (λ t. t.items) texts ++ flat_map row_line left ≡ flat_map row_line all
    → is_some (slice_get left 0) ≡ false → flat_map (λ t. t.items) texts ≡ flat_map row_line all
pieces_all all [] texts so_far none = sym (append-nil (flat_map (λ t. t.items) texts)) ∙ so_far
pieces_all all (row ∷ left) texts so_far none = absurd (true≢false none)

-- texts that are the pieces are their lines
pub lines_of : (rows : List (List Seg × Declared)) (texts : List (Vec ℕ Global)) → nat_eq (length texts) 0 ≡ false
    → lines_by rows texts ≡ flat_map (λ t. t.items) texts
lines_of rows [] some = absurd (true≢false some)
lines_of rows (text ∷ texts) some = refl
