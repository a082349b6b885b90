-- What is heard between states: why what sinks hear goes on.
use Rattle.std.proofs.Common.{◌≡◌, Bool, true, List, [], ◌∷◌, ◌++◌, Option, Result, Ok, Err, refl, sym, ap, subst, ◌∙◌}
use Rattle.aml_code.specs.Pieces.{Told}
use Rattle.aml_load.specs.Declaring.{◌>>=◌}
use Rattle.aml_load.specs.Hearing.{Heard, catch, catch_all, hear, hear_all}
use Rattle.aml_load.specs.HearingViews.{Caught, Grew, Says, heard_in}
use Rattle.aml_load.specs.declared.ears.Ears.{Ears}
use Rattle.aml_load.specs.declared.faults.LoadFault.{LoadFault}
use Rattle.aml_load.specs.declared.hearing.Hearing.{Hearing}

-- pieces one after the other
pub after : (does : Bool) (ps qs : List Told) (x : Heard)
    → hear_all does (ps ++ qs) x ≡ (hear_all does ps x >>= λ y. hear_all does qs y)
after does [] qs x = refl
after does (p ∷ ps) qs x = by (hear does p x) (after does ps qs)
  where
    by : (r : Result Heard LoadFault)
        → ((y : Heard) → hear_all does (ps ++ qs) y ≡ (hear_all does ps y >>= λ z. hear_all does qs z))
        → (r >>= λ y. hear_all does (ps ++ qs) y) ≡ ((r >>= λ y. hear_all does ps y) >>= λ z. hear_all does qs z)
    by (Ok y) both = both y
    by (Err e) both = refl

-- no piece
none_told : (r : Result Heard LoadFault) → (r >>= λ x. hear_all true [] x) ≡ r
none_told (Ok x) = refl
none_told (Err e) = refl

pub says_still : (s : Hearing × Option LoadFault) → Grew s s []
says_still s r says = subst (Says s) (sym (none_told r)) says

-- some, and others behind them
both_told : (ps qs : List Told) (r : Result Heard LoadFault)
    → (r >>= λ x. hear_all true (ps ++ qs) x) ≡ ((r >>= λ x. hear_all true ps x) >>= λ x. hear_all true qs x)
both_told ps qs (Ok x) = after true ps qs x
both_told ps qs (Err e) = refl

pub says_further : (a b c : Hearing × Option LoadFault) (ps qs : List Told) → Grew a b ps → Grew b c qs → Grew a c (ps ++ qs)
says_further a b c ps qs one two r says =
    subst (Says c) (sym (both_told ps qs r)) (two (r >>= λ x. hear_all true ps x) (one r says))

-- ---- where no term does anything

caught_after : (ps qs : List Told) (x : Heard) → catch_all (ps ++ qs) x ≡ catch_all qs (catch_all ps x)
caught_after [] qs x = refl
caught_after (p ∷ ps) qs x = caught_after ps qs (catch p x)

pub caught_still : (e : Ears) → Caught e e []
caught_still e k own = record { heard = λ l. refl; numbered = λ x. x }

pub caught_further : (a b c : Ears) (ps qs : List Told) → Caught a b ps → Caught b c qs → Caught a c (ps ++ qs)
caught_further a b c ps qs one two k own =
    let first = one k own in
    let second = two k (first.numbered own) in
    record {
      heard = λ l. second.heard l ∙ ap (catch_all qs) (first.heard l) ∙ sym (caught_after ps qs (heard_in k l a));
      numbered = λ x. second.numbered (first.numbered x);
    }
