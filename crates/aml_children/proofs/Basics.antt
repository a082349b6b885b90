-- Steps on lists, options and tests that several proofs take.
use Rattle.std.specs.Prelude.{◌==◌, slice_get}
use Rattle.std.proofs.Common.{◌≡◌, ℕ, zero, suc, ◌<◌, Bool, true, false, not, cond, List, [], ◌∷◌, ◌++◌, length, get_or}
use Rattle.std.proofs.Common.{Option, Some, None, is_some, refl}
use Rattle.std.proofs.Common.{arith}
use Rattle.std.proofs.lemmas.Bool.{false≢true}
use Rattle.std.specs.Option.{option_or, option_and_then, option_map}
use Rattle.std.proofs.lemmas.Bool.Decides.{nat_tests}

pub suc_eq : (a b : ℕ) → (suc a == suc b) ≡ (a == b)
suc_eq a b = grind (arith, nat_tests)

pub cond_of : {A B : Type 0} (f : A → B) (b : Bool) (x y : A) → f (cond b x y) ≡ cond b (f x) (f y)
cond_of f true x y = refl
cond_of f false x y = refl

pub or_none : {A : Type 0} (o : Option A) → option_or o None ≡ o
or_none None = refl
or_none (Some x) = refl

pub and_then_map : {A B C : Type 0} (f : B → C) (g : A → Option B) (o : Option A)
    → option_and_then (λ x. option_map f (g x)) o
    ≡ option_map f (option_and_then g o)
and_then_map f g None = refl
and_then_map f g (Some x) = refl

pub not_true : (b : Bool) → not b ≡ true → b ≡ false
not_true true h = absurd (false≢true h)
not_true false h = refl

pub some_map : {A B : Type 0} (f : A → B) (o : Option A) → is_some (option_map f o) ≡ is_some o
some_map f None = refl
some_map f (Some x) = refl

pub and_then_twice : {A B C : Type 0} (f : A → Option B) (g : B → Option C) (o : Option A)
    → option_and_then g (option_and_then f o)
    ≡ option_and_then (λ x. option_and_then g (f x)) o
and_then_twice f g None = refl
and_then_twice f g (Some x) = refl

-- reads in front of others, and behind them
module _ {A : Type 0} where
  pub read_front : (xs ys : List A) (k : ℕ) → k < length xs → slice_get (xs ++ ys) k ≡ slice_get xs k
  read_front [] ys k within = absurd (omega (arith, within))
  read_front (x ∷ xs) ys zero within = refl
  read_front (x ∷ xs) ys (suc k) within = read_front xs ys k (omega (arith, within))

  pub read_last : (xs : List A) (y : A) → slice_get (xs ++ y ∷ []) (length xs) ≡ Some y
  read_last [] y = refl
  read_last (x ∷ xs) y = read_last xs y

-- a list of one
pub alone : {A : Type 0} (xs : List A) (e : A) → length xs ≡ 1 → get_or xs 0 e ∷ [] ≡ xs
alone [] e one = absurd (omega (arith, one))
alone (x ∷ []) e one = refl
alone (x ∷ y ∷ xs) e one = absurd (omega (arith, one))
