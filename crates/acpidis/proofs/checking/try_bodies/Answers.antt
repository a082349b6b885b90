use Rattle.acpidis.proofs.Common.{◌≡◌, ℕ, ◌+◌, ◌<◌, ◌≤◌, Bool, List, Result, length, take, ◌++◌, ◌∷◌, [], sym, ap, ◌∙◌}
use Rattle.acpidis.proofs.Common.{subst, arith, length-take-le, length_push, take_all, take_more, CodeFault, body_of}
use Rattle.acpidis.proofs.Common.{Body, AreKept, IsKept, IsSame, Reading, reading_of, map, map_push, length-map}
use Rattle.acpidis.proofs.BodyLaws.{kept_more}
use Rattle.acpidis.proofs.checking.try_bodies.Goals as goal

pub loop-number-preserved : goal.loop-number-preserved
loop-number-preserved c =
    let x = c.args.listing.now in
    let n = c.loop-number.number in
    let b = c.index.result.now in
    let bodies = x.bodies.items in
    let tried = c.loop-number.tried.items in
    let Keeps : ℕ → Reading → Result Bool CodeFault → Type 0 = λ k. IsKept (IsSame (body_of x.loaded k)) in
    let inside : n < length bodies = omega arith in
    let there : map reading_of (take (n + 1) bodies) ≡ map reading_of (take n bodies) ++ reading_of b ∷ [] =
    ap (map reading_of) (take_more bodies n b inside ∙ ap (λ d. take n bodies ++ d ∷ []) (sym c.index.ensures)) ∙ map_push reading_of (take n bodies) b in
    let here : Keeps (length (map reading_of (take n bodies))) (reading_of b) c.in_ok-try_body.field-0 =
    rw (length-map (take n bodies), length-take-le n bodies (omega arith), ← c.body-bytes.ensures) c.in_ok-try_body.ensures in
    record {
      many = omega (arith, c.loop-number.invariant.many, ap length c.in_ok-push.ensures.items, length_push tried c.in_ok-try_body.field-0);
      kept = rw (there, c.in_ok-push.ensures.items) (kept_more Keeps (map reading_of (take n bodies)) tried (reading_of b) c.in_ok-try_body.field-0 c.loop-number.invariant.kept here);
    }

pub returns : goal.returns
returns c =
    let x = c.args.listing.now in
    let past : length x.bodies.items ≤ c.loop-number.number = omega arith in
    record {
      kept = subst (λ (bs : List Body). AreKept (λ n. IsKept (IsSame (body_of x.loaded n))) (map reading_of bs) c.loop-number.tried.items)
          (take_all c.loop-number.number x.bodies.items past) c.loop-number.invariant.kept;
      each = omega (arith, c.loop-number.invariant.many, x.each);
    }
