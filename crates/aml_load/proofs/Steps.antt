-- One step of what is heard, and one that declares nothing behind it.
use Rattle.std.proofs.Common.{◌≡◌, ℕ, true, false, [], ◌∷◌, Option, Some, None, is_some, refl, Ok, Err, OnOk, IfOk, IfErr, Result, sym, ap, subst, inl, inr, ◌∙◌}
use Rattle.aml_namespace.specs.Known.{Known}
use Rattle.aml_load.specs.Declaring.{◌>>=◌, Listed}
use Rattle.aml_load.specs.Hearing.{Around, Heard, closed, closed_by, done_by, hear, hear_all, is_head, terms, run, head, inner, arguments, elements, units, nowhere}
use Rattle.aml_code.specs.Pieces.{Told}
use Rattle.aml_load.specs.HearingViews.{Goes, Hears, Says, StopsBy, AreNumbered, heard_by, heard_in}
use Rattle.aml_load.specs.Tables.{Fails}
use Rattle.aml_load.specs.declared.ears.Ears.{Ears}
use Rattle.aml_load.specs.declared.faults.LoadFault.{LoadFault}
use Rattle.aml_load.specs.declared.hearing.Hearing.{Hearing}
use Rattle.aml_load.specs.declared.walking.Progress.{Progress}

abbrev pub hearing : Progress → Ears → Hearing
hearing p e = record { progress = p; ears = e }

-- one step of what is heard alone, and another
pub goes_then : (k : Known) (old mid new : Ears) (first next : Heard → Heard) → Goes k old mid first → Goes k mid new next
    → Goes k old new (λ x. next (first x))
goes_then k old mid new first next one two = record {
  heard = λ l. two.heard l ∙ ap next (one.heard l);
  numbered = λ own. two.numbered (one.numbered own);
}

pub goes_as : (k : Known) (old new : Ears) (first step : Heard → Heard)
    → ((l : Listed) → step (heard_in k l old) ≡ first (heard_in k l old)) → Goes k old new first → Goes k old new step
goes_as k old new first step same one = record {
  heard = λ l. one.heard l ∙ sym (same l);
  numbered = one.numbered;
}

pub on_ok_by : {X E P Q : Type 0} (r : Result X E) → (P → Q) → OnOk r P → OnOk r Q
on_ok_by (Ok x) f p = f p
on_ok_by (Err e) f p = p

pub if_ok_by : {X E : Type 0} {P Q : X → Type 0} (r : Result X E) → ((x : X) → P x → Q x) → IfOk r P → IfOk r Q
if_ok_by (Ok x) f p = f x p
if_ok_by (Err e) f p = p

pub if_err_by : {X E : Type 0} {P Q : E → Type 0} (r : Result X E) → ((e : E) → P e → Q e) → IfErr r P → IfErr r Q
if_err_by (Ok x) f p = p
if_err_by (Err e) f p = f e p

-- two clauses of one call, of whatever is held
pub of_both : {T E : Type 0} (r : Result T E) {Held New : Listed → Type 0} {A B : Type 0}
    → ((l : Listed) → Held l → OnOk r A) → ((l : Listed) → Held l → OnOk r B) → ((l : Listed) → Held l → A → B → New l)
    → OnOk r ((l : Listed) → Held l → New l)
of_both (Ok x) a b new = λ l h. new l h (a l h) (b l h)
of_both (Err e) a b new = tt

-- a step that declares nothing
pub goes_heard : (p : Progress) (old new : Ears) (step : Heard → Heard) → Goes p.space old new step → AreNumbered p.space old
    → Hears (hearing p old) (hearing p new) (λ x. Ok (step x))
goes_heard p old new step goes own = record {
  heard = λ l h. (l, h, ap Ok (sym (goes.heard l)));
  numbered = goes.numbered own;
}

pub goes_on : (old : Hearing) (p : Progress) (mid new : Ears) (first : Heard → Result Heard LoadFault) (step : Heard → Heard)
    → Hears old (hearing p mid) first → Goes p.space mid new step → Hears old (hearing p new) (λ x. first x >>= λ y. Ok (step y))
goes_on old p mid new first step one two = record {
  heard = λ l h.
      let a = one.heard l h in (
        a.0,
        a.1,
        ap (λ (r : Result Heard LoadFault). r >>= λ y. Ok (step y)) a.2 ∙ ap Ok (sym (two.heard a.0)),
      );
  numbered = two.numbered one.numbered;
}

-- a step that is another one where it begins
pub heard_as : (old new : Hearing) (first step : Heard → Result Heard LoadFault)
    → ((l : Listed) → step (heard_by old l) ≡ first (heard_by old l)) → Hears old new first → Hears old new step
heard_as old new first step same one = record {
  heard = λ l h. let a = one.heard l h in (a.0, a.1, same l ∙ a.2);
  numbered = one.numbered;
}

-- behind the tail of an opcode: of a term of a list, and of another one
pub closed_in : (a : Around) (span : ℕ × ℕ) (x : Heard) → is_head a ≡ true
    → closed_by true a span x ≡ (done_by x.term span x >>= λ y. Ok (closed y))
closed_in (head ks) span x in_head = refl
closed_in (terms w) span x in_head = absurd cc
closed_in (run w) span x in_head = absurd cc
closed_in (inner ks) span x in_head = absurd cc
closed_in arguments span x in_head = absurd cc
closed_in elements span x in_head = absurd cc
closed_in units span x in_head = absurd cc
closed_in nowhere span x in_head = absurd cc

pub closed_else : (a : Around) (span : ℕ × ℕ) (x : Heard) → is_head a ≡ false → closed_by true a span x ≡ Ok (closed x)
closed_else (head ks) span x other = absurd cc
closed_else (terms w) span x other = refl
closed_else (run w) span x other = refl
closed_else (inner ks) span x other = refl
closed_else arguments span x other = refl
closed_else elements span x other = refl
closed_else units span x other = refl
closed_else nowhere span x other = refl

-- a step behind one that declares nothing
pub hears_on : (p : Progress) (old mid : Ears) (new : Hearing) (first : Heard → Heard) (step : Heard → Result Heard LoadFault)
    → Goes p.space old mid first → Hears (hearing p mid) new step → Hears (hearing p old) new (λ x. step (first x))
hears_on p old mid new first step one two = record {
  heard = λ l h. let a = two.heard l h in (a.0, a.1, ap step (sym (one.heard l)) ∙ a.2);
  numbered = two.numbered;
}

pub stops_on : (p : Progress) (old mid : Ears) (first : Heard → Heard) (step : Heard → Result Heard LoadFault) (e : LoadFault)
    → Goes p.space old mid first → StopsBy (hearing p mid) step e → StopsBy (hearing p old) (λ x. step (first x)) e
stops_on p old mid first step e one two l h = subst (λ (x : Heard). Fails e (step x)) (one.heard l) (two l h)

-- what fails fails, whatever comes behind it
pub fails_on : (e : LoadFault) (r : Result Heard LoadFault) (next : Heard → Result Heard LoadFault) → Fails e r → Fails e (r >>= next)
fails_on e r next (inl want) = inl want
fails_on e r next (inr fails) = inr (ap (λ (r : Result Heard LoadFault). r >>= next) fails)

-- a piece behind what was heard
pub said_on : (old new : Hearing) (f : Option LoadFault) (p : Told) (r : Result Heard LoadFault) → is_some f ≡ false
    → Hears old new (hear true p) → Says (old, f) r → Says (new, f) (r >>= λ x. hear_all true (p ∷ []) x)
said_on old new None p r still one (l, h, is) =
    let a = one.heard l h in (
      a.0,
      a.1,
      ap (λ (r : Result Heard LoadFault). r >>= λ x. hear_all true (p ∷ []) x) is
          ∙ ap (λ (r : Result Heard LoadFault). r >>= λ y. hear_all true [] y) a.2,
    )
said_on old new (Some e) p r still one says = absurd cc
