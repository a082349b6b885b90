-- What is made of the pairs of two lists that are as long as each other.
use Rattle.aml_text.proofs.Common.{zip, ◌≡◌, ℕ, ◌<◌, List, length, get_or, map, sym, ap, ◌∙◌, arith, length-map}
use Rattle.aml_text.proofs.Common.{get_or-map, length-zip, get_or-zip}

module _ {A B C : Type 0} (f : A × B → C) (xs : List A) (ys : List B) (many : length ys ≡ length xs) where
  pub pairs_many : length (map f (zip xs ys)) ≡ length xs
  pairs_many = omega (arith, length-map (zip xs ys) f, length-zip xs ys)

  -- at a place
  pub pair_there : (i : ℕ) (x : A) (y : B) (other : C) → i < length xs → x ≡ get_or xs i x → y ≡ get_or ys i y
      → f (x, y) ≡ get_or (map f (zip xs ys)) i other
  pair_there i x y other inside p q =
      sym (get_or-map f (zip xs ys) i (x, y) other (omega (arith, length-zip xs ys)) ∙ ap f (get_or-zip xs ys i (x, y) inside (omega arith)
      ∙ sym (λ k. (p k, q k))))
