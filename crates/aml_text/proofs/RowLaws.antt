-- Segments that are printed in parts: with a dot between two parts they are those of the whole (`dotted_join`).
use Rattle.aml_text.proofs.Common.{◌≡◌, ℕ, List, [], ◌∷◌, ◌++◌, map, flat_map, length, sym, ap, ◌∙◌, append_assoc, Seg}
use Rattle.aml_text.proofs.Common.{word, ◌≤◌, arith, refl}
use Rattle.std.proofs.lemmas.List.{map-append}
use Rattle.std.proofs.lemmas.List.Concat.{flat_map-append}
use Rattle.text_writer.proofs.PrintLaws.{straight}
use Rattle.aml_namespace.specs.Known.{Declared}
use Rattle.aml_text.specs.Rows.{marked_text}
unfoldable use Rattle.aml_text.specs.Rows.{path_text, row_line}
unfoldable use Rattle.asl_text.specs.Texts.{separated, line, indent}
use Rattle.asl_text.specs.Texts.{segment_text}

-- segments with a dot between two
abbrev pub dotted : List Seg → List ℕ
dotted segs = separated (word ".") (map segment_text segs)

pub dotted_join : (p q : List Seg) → 1 ≤ length p → 1 ≤ length q → dotted (p ++ q) ≡ dotted p ++ (word "." ++ dotted q)
unfolding separated
dotted_join [] q some more = absurd (omega (arith, some))
dotted_join (s ∷ p) [] some more = absurd (omega (arith, more))
dotted_join (s ∷ p) (t ∷ q) some more =
    let each : List ℕ → List ℕ = λ text. word "." ++ text in
    ap (λ texts. segment_text s ++ flat_map each texts) (map-append segment_text p (t ∷ q))
    ∙ ap (λ text. segment_text s ++ text) (flat_map-append each (map segment_text p) (map segment_text (t ∷ q)))
    ∙ sym (append_assoc (segment_text s) (flat_map each (map segment_text p)) (flat_map each (map segment_text (t ∷ q))))
    ∙ ap (λ text. (segment_text s ++ flat_map each (map segment_text p)) ++ text)
    (append_assoc (word ".") (segment_text t) (flat_map each (map segment_text q)))

-- ---- texts by their parts

pub path_is : (path : List Seg) → path_text path ≡ word "\\" ++ dotted path
unfolding path_text
path_is path = refl

pub row_is : (row : List Seg × Declared) → row_line row ≡ indent 1 ++ marked_text row ++ word "\n"
unfolding row_line line
row_is row = refl

pub count_is : (text : List ℕ) → line 0 text ≡ text ++ word "\n"
unfolding line indent
count_is text = refl

pub ruleset printing = (straight, path_is, row_is, count_is)
