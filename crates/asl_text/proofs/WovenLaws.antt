-- A text with places in it, with the lines of bodies woven in, as it grows.
use Rattle.asl_text.proofs.Common.{◌≡◌, ℕ, ◌+◌, ◌-◌, List, [], ◌∷◌, ◌++◌, length, take, drop, append_assoc, append-nil}
use Rattle.asl_text.proofs.Common.{sym, ap, ◌∙◌, arith, drop-drop, BodyLines, first_lines}
use Rattle.std.proofs.Common.{◌≤◌, false, suc}
use Rattle.std.proofs.lemmas.List.{take-append-le, drop-append-le, length-drop, take_all, drop_all}
use Rattle.aml_code.specs.Tree.{slice_of}
use Rattle.asl_text.specs.Tables.{Made, woven}
use Rattle.asl_text.specs.declared.tables.Place.{Place}

-- places stand in order between two offsets
abbrev pub Ordered : ℕ → List Place → ℕ → Type 0
Ordered from [] long = from ≤ long
Ordered from (p ∷ ps) long = (from ≤ p.at) × Ordered p.at ps long

ordered_within : (from : ℕ) (ps : List Place) (long : ℕ) → Ordered from ps long → from ≤ long
ordered_within from [] long o = o
ordered_within from (p ∷ ps) long o = let h = ordered_within p.at ps long o.1 in omega (arith, o.0, h)

pub ordered_longer : (from : ℕ) (ps : List Place) (long longer : ℕ) → long ≤ longer → Ordered from ps long
    → Ordered from ps longer
ordered_longer from [] long longer l o = omega (arith, o, l)
ordered_longer from (p ∷ ps) long longer l o = (o.0, ordered_longer p.at ps long longer l o.1)

pub ordered_place : (from : ℕ) (ps : List Place) (p : Place) (long longer : ℕ) → Ordered from ps long
    → long ≤ p.at → p.at ≤ longer → Ordered from (ps ++ p ∷ []) longer
ordered_place from [] p long longer o l h = (omega (arith, o, l), h)
ordered_place from (q ∷ qs) p long longer o l h = (o.0, ordered_place q.at qs p long longer o.1 l h)

module _ (code : List ℕ) where
  -- a text that grows
  pub woven_text : (bs : List BodyLines) (text more : List ℕ) (from : ℕ) (ps : List Place)
      → Ordered from ps (length text)
      → woven code bs (text ++ more) from ps ≡ woven code bs text from ps ++ more
  woven_text bs text more from [] o = drop-append-le from text more o
  woven_text bs text more from (p ∷ ps) o =
      let within = ordered_within p.at ps (length text) o.1 in
      let start : from ≤ length text = omega (arith, o.0, within) in
      let first = first_lines bs p.level (slice_of code p.start p.len) in
      let room : p.at - from ≤ length (drop from text) = omega (arith, within, length-drop from text) in
      let cut : take (p.at - from) (drop from (text ++ more)) ≡ take (p.at - from) (drop from text) =
      ap (take (p.at - from)) (drop-append-le from text more start) ∙ take-append-le (p.at - from) (drop from text) more room in
      let rest = woven_text (drop 1 bs) text more p.at ps o.1 in
      (λ i. cut i ++ (first ++ rest i))
      ∙ ap (λ l. take (p.at - from) (drop from text) ++ l) (sym (append_assoc first (woven code (drop 1 bs) text p.at ps) more))
      ∙ sym (append_assoc (take (p.at - from) (drop from text)) (first ++ woven code (drop 1 bs) text p.at ps) more)

  -- a place at the end
  pub woven_place : (bs : List BodyLines) (text : List ℕ) (from : ℕ) (ps : List Place) (p : Place)
      → Ordered from ps (length text) → p.at ≡ length text
      → woven code bs text from (ps ++ p ∷ [])
      ≡ woven code bs text from ps ++ first_lines (drop (length ps) bs) p.level (slice_of code p.start p.len)
  woven_place bs text from [] p o e =
      let first = first_lines bs p.level (slice_of code p.start p.len) in
      let long : length (drop from text) ≤ p.at - from = omega (arith, o, e, length-drop from text) in
      let all = take_all (p.at - from) (drop from text) long in
      let none = drop_all p.at text (omega (arith, e)) in
      (λ i. all i ++ (first ++ none i)) ∙ ap (λ l. drop from text ++ l) (append-nil first)
  woven_place bs text from (q ∷ qs) p o e =
      let first = first_lines bs q.level (slice_of code q.start q.len) in
      let cut = take (q.at - from) (drop from text) in
      let rest = woven code (drop 1 bs) text q.at qs in
      let count : 1 + length qs ≡ length (q ∷ qs) = omega arith in
      let last = λ (cs : List BodyLines). first_lines cs p.level (slice_of code p.start p.len) in
      ap (λ l. cut ++ (first ++ l)) (woven_place (drop 1 bs) text q.at qs p o.1 e
      ∙ ap (λ (cs : List BodyLines). rest ++ last cs) (drop-drop (length qs) 1 bs ∙ ap (λ n. drop n bs) count))
      ∙ ap (λ l. cut ++ l) (sym (append_assoc first rest (last (drop (length (q ∷ qs)) bs))))
      ∙ sym (append_assoc cut (first ++ rest) (last (drop (length (q ∷ qs)) bs)))

  -- what is made, with these bodies
  abbrev pub weave : List BodyLines → Made → List ℕ
  weave bs m = woven code bs m.text 0 m.places

-- between two terms
abbrev pub IsReady : Made → Type 0
IsReady m = (m.in_method ≡ false) × Ordered 0 m.places (length m.text)

-- a place behind what was printed
pub woven_turn : (code : List ℕ) (bs rest : List BodyLines) (text : List ℕ) (from : ℕ) (p : Place) (ps : List Place)
    (done total : List ℕ)
    → rest ≡ drop 1 bs → done ++ woven code bs text from (p ∷ ps) ≡ total
    → (done ++ (take (p.at - from) (drop from text) ++ first_lines bs p.level (slice_of code p.start p.len)))
    ++ woven code rest text p.at ps ≡ total
woven_turn code bs rest text from p ps done total e so_far =
    let before = take (p.at - from) (drop from text) in
    let first = first_lines bs p.level (slice_of code p.start p.len) in
    let more = woven code (drop 1 bs) text p.at ps in
    ap (λ (r : List BodyLines). (done ++ (before ++ first)) ++ woven code r text p.at ps) e
    ∙ append_assoc done (before ++ first) more ∙ ap (λ l. done ++ l) (append_assoc before first more) ∙ so_far

-- the bodies that are left
pub left_turn : (bs rest : List BodyLines) (n : ℕ) → rest ≡ drop 1 bs → drop n rest ≡ drop (suc n) bs
left_turn bs rest n e =
    let count : 1 + n ≡ suc n = omega arith in
    ap (drop n) e ∙ drop-drop n 1 bs ∙ ap (λ k. drop k bs) count
