-- A step that makes an answer of what another step read.
use Rattle.std.specs.Prelude.{IfOk, IfErr, ◌≢◌}
use Rattle.std.proofs.Common.{◌≡◌, Result, Ok, Err, refl, sym, ap, subst, ◌∙◌, inl, inr}
use Rattle.aml_names.specs.declared.faults.CodeFault.{CodeFault}
use Rattle.aml_names.specs.declared.faults.CodeFault.TheVariants as faults
use Rattle.aml_names.specs.NameReading.{◌>>=◌, Gives}
use Rattle.aml_names.proofs.StepLaws.{ok_is}

-- it answered: what holds of the answers made of all that may have been read holds of this answer
pub answered : {A B : Type 0} (P : B → Type 0) (r : Result A CodeFault) (f : A → B) (y : B)
    → (r >>= λ x. Ok (f x)) ≡ Ok y → ((x : A) → r ≡ Ok x → P (f x))
    → P y
answered P (Ok x) f y e k = subst P (ok_is (f x) y e) (k x refl)
answered P (Err d) f y e k = absurd cc

-- it fails only as the step that reads
pub not_answered : {A B : Type 0} (r : Result A CodeFault) (f : A → B) (d : CodeFault) → (r >>= λ x. Ok (f x)) ≡ Err d
    → r ≡ Err d
not_answered (Ok x) f d e = absurd cc
not_answered (Err c) f d e = cc

-- what was read is known: the rest of the steps go on from it
pub read_on : {A B : Type 0} (r : Result A CodeFault) (f : A → Result B CodeFault) (x : A) (y : Result B CodeFault)
    → r ≡ Ok x → f x ≡ y → (r >>= f) ≡ y
read_on r f x y e k = ap (λ (q : Result _ CodeFault). q >>= f) e ∙ k

-- what a function answered, seen by a view, is what reading gives
module _ {X Y : Type 0} (view : X → Y) (read : Result Y CodeFault) where
  pub given_ok : (r : Result X CodeFault) (Is : X → Type 0) → Gives view r read → ((x : X) → read ≡ Ok (view x) → Is x)
      → IfOk r Is
  given_ok (Ok x) Is e k = k x e
  given_ok (Err d) Is e k = tt

  pub given_err : (r : Result X CodeFault) (Is : CodeFault → Type 0) → Gives view r read → Is faults.NoMemory
      → ((d : CodeFault) → read ≡ Err d → Is d) → IfErr r Is
  given_err (Ok x) Is e none k = tt
  given_err (Err d) Is (inl e) none k = subst Is (sym e) none
  given_err (Err d) Is (inr e) none k = k d e

  -- by a function that takes no memory
  pub given_fault : (r : Result X CodeFault) (Is : CodeFault → Type 0) → Gives view r read
      → IfErr r (λ d. d ≢ faults.NoMemory)
      → ((d : CodeFault) → read ≡ Err d → Is d) → IfErr r Is
  given_fault (Ok x) Is e free k = tt
  given_fault (Err d) Is (inl e) free k = absurd (free e)
  given_fault (Err d) Is (inr e) free k = k d e
