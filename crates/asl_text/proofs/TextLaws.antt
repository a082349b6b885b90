-- Texts of lists, as loops print them.
use Rattle.std.proofs.Common.{◌≤◌, ◌-◌, drop, sym, arith, zero, suc, ◌*◌, ◌/◌, ◌%◌}
use Rattle.asl_text.proofs.Common.{◌≡◌, ℕ, ◌+◌, ◌<◌, add-one, append-nil, List, [], ◌∷◌, ◌++◌, get_or, map, flat_map}
use Rattle.asl_text.proofs.Common.{append_assoc, length, take, refl, ap, ◌∙◌, take_more, map-append, nil_from_length}
use Rattle.asl_text.proofs.Common.{flat_map-append, word, indent, separated, Name, cond, replicate}
use Rattle.asl_text.specs.Texts.{segment_text}
unfoldable use Rattle.asl_text.specs.Texts.{prefix_text, name_text}
use Rattle.text_writer.proofs.PrintLaws.{straight}
use Rattle.std.proofs.lemmas.Grind.{replicate_next}
use Rattle.std.proofs.lemmas.List.{take_all}
use Rattle.std.proofs.Math.Nat.{div-add-mod}
use Rattle.std.proofs.Math.Seq.{take-add}

-- what is made of a list that grows at its end
pub grown : {X Y : Type 0} (F : List X → List Y) (g : X → List Y)
    → ((xs : List X) (x : X) → F (xs ++ x ∷ []) ≡ F xs ++ g x) → (xs : List X) (i j : ℕ) (d : X)
    → j ≡ i + 1 → i < length xs → F (take j xs) ≡ F (take i xs) ++ g (get_or xs i d)
grown F g more xs i j d e h = ap F (ap (λ k. take k xs) e ∙ take_more xs i d h) ∙ more (take i xs) (get_or xs i d)

-- ---- separators

-- texts, each behind a separator
unfoldable pub continued : List ℕ → List (List ℕ) → List ℕ
continued separator texts = flat_map (λ text. separator ++ text) texts

pub continued_none : (separator : List ℕ) → continued separator [] ≡ []
unfolding continued
continued_none separator = refl

pub continued_more : (separator : List ℕ) (texts : List (List ℕ)) (text : List ℕ)
    → continued separator (texts ++ text ∷ []) ≡ continued separator texts ++ (separator ++ text)
unfolding continued
continued_more separator texts text =
    flat_map-append (λ t. separator ++ t) texts (text ∷ []) ∙ ap (λ l. continued separator texts ++ l) (append-nil (separator ++ text))

module _ {X : Type 0} (separator : List ℕ) (g : X → List ℕ) (xs : List X) where
  pub separated-nil : length xs ≡ 0 → separated separator (map g xs) ≡ []
  unfolding separated
  separated-nil e = ap (λ ys. separated separator (map g ys)) (nil_from_length xs e)

  pub separated-cons : (x : X) (rest : List X) → xs ≡ x ∷ rest
      → separated separator (map g xs) ≡ g x ++ continued separator (map g rest)
  unfolding separated continued
  separated-cons x rest e = ap (λ ys. separated separator (map g ys)) e

  pub separated-turn : (i j : ℕ) (d : X) → j ≡ i + 1 → i < length xs
      → continued separator (map g (take j xs)) ≡ continued separator (map g (take i xs)) ++ (separator ++ g (get_or xs i d))
  separated-turn i j d e h =
      grown (λ ys. continued separator (map g ys)) (λ x. separator ++ g x)
      (λ ys x. ap (continued separator) (map-append g ys (x ∷ [])) ∙ continued_more separator (map g ys) (g x)) xs i j d e h

  pub continued-all : (i : ℕ) → length xs ≤ i
      → continued separator (map g (take i xs)) ≡ flat_map (λ text. separator ++ text) (map g xs)
  unfolding continued
  continued-all i e = ap (λ ys. flat_map (λ text. separator ++ text) (map g ys)) (take_all i xs e)

  pub continued-on : (done n : ℕ)
      → continued separator (map g (take (done + n) xs)) ≡ continued separator (map g (take done xs))
      ++ flat_map (λ text. separator ++ text) (map g (take ((done + n) - done) (drop done xs)))
  unfolding continued
  continued-on done n =
      let count : (done + n) - done ≡ n = omega arith in
      ap (λ ys. flat_map (λ text. separator ++ text) (map g ys)) (take-add done n xs ∙ ap (λ m. take done xs ++ take m (drop done xs)) (sym count))
      ∙ ap (flat_map (λ text. separator ++ text)) (map-append g (take done xs) (take ((done + n) - done) (drop done xs)))
      ∙ flat_map-append (λ text. separator ++ text) (map g (take done xs)) (map g (take ((done + n) - done) (drop done xs)))

pub ruleset separations = (separated-nil, separated-cons, separated-turn, continued_none)

-- ---- indents

pub indent_none : (n : ℕ) → n ≡ 0 → indent n ≡ []
unfolding indent
indent_none n e = ap indent e

pub indent_more : (n : ℕ) → indent (n + 1) ≡ indent n ++ word "  "
unfolding indent
indent_more n = rw add-one refl

-- four levels more
pub indent_four : (n : ℕ) → indent (4 * (n + 1)) ≡ indent (4 * n) ++ word "        "
unfolding word
indent_four n =
    let four : 4 * (n + 1) ≡ 4 * n + 1 + 1 + 1 + 1 = omega arith in
    let w = word "  " in
    ap indent four ∙ indent_more (4 * n + 1 + 1 + 1) ∙ ap (λ t. t ++ w) (indent_more (4 * n + 1 + 1))
    ∙ ap (λ t. (t ++ w) ++ w) (indent_more (4 * n + 1)) ∙ ap (λ t. ((t ++ w) ++ w) ++ w) (indent_more (4 * n))
    ∙ append_assoc ((indent (4 * n) ++ w) ++ w) w w ∙ append_assoc (indent (4 * n) ++ w) w (w ++ w)
    ∙ append_assoc (indent (4 * n)) w (w ++ (w ++ w))

pub indent_sum : (n m : ℕ) → indent (n + m) ≡ indent n ++ indent m
unfolding indent
indent_sum n zero = let none : n + 0 ≡ n = omega arith in ap indent none ∙ sym (append-nil (indent n))
indent_sum n (suc m) =
    let more : n + suc m ≡ n + m + 1 = omega arith in
    ap indent more ∙ indent_more (n + m) ∙ ap (λ t. t ++ word "  ") (indent_sum n m)
    ∙ append_assoc (indent n) (indent m) (word "  ")

-- fours, and the others behind them
pub indent_whole : (n i j : ℕ) → i ≡ n / 4 → j ≡ n % 4 → indent n ≡ indent (4 * i) ++ indent j
indent_whole n i j p q =
    sym (ap indent (div-add-mod n 4)) ∙ indent_sum (4 * (n / 4)) (n % 4)
    ∙ ap (λ k. indent (4 * k) ++ indent (n % 4)) (sym p) ∙ ap (λ k. indent (4 * i) ++ indent k) (sym q)

-- spaces of at most sixteen
pub indent_front : (n : ℕ) → n ≤ 8 → take (n * 2) (replicate 16 32) ≡ indent n
unfolding indent word
indent_front zero few = refl
indent_front (suc zero) few = refl
indent_front (suc (suc zero)) few = refl
indent_front (suc (suc (suc zero))) few = refl
indent_front (suc (suc (suc (suc zero)))) few = refl
indent_front (suc (suc (suc (suc (suc zero))))) few = refl
indent_front (suc (suc (suc (suc (suc (suc zero)))))) few = refl
indent_front (suc (suc (suc (suc (suc (suc (suc zero))))))) few = refl
indent_front (suc (suc (suc (suc (suc (suc (suc (suc zero)))))))) few = refl
indent_front (suc (suc (suc (suc (suc (suc (suc (suc (suc n))))))))) few = absurd (omega (arith, few))

pub ruleset indents = (indent_none, indent_more, indent_four, indent_whole)

-- ---- names

pub prefix_is : (n : Name) → prefix_text n ≡ cond n.root (word "\\") [] ++ replicate n.ups 94
unfolding prefix_text
prefix_is n = refl

pub name_is : (n : Name) → name_text n ≡ prefix_text n ++ separated (word ".") (map segment_text n.segs)
unfolding name_text
name_is n = refl

pub ruleset names = (straight, separations, replicate_next, prefix_is, name_is)
