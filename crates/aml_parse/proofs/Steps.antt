-- The laws of a step through a table whose code may run.
use Rattle.aml_parse.proofs.Common.{◌≡◌, ℕ, ◌+◌, ◌-◌, ◌≤◌, List, ◌++◌, length, take, drop, None, Ok, sym, ap, ◌∙◌}
use Rattle.aml_parse.proofs.Common.{arith, inr, length-append, length-take, length-drop, take-append-drop, drop_at}
use Rattle.aml_parse.proofs.Common.{IsBytes, IsBytes-drop, IsBytes-take, Position, Tree, encoding, slice_of, Arities}
use Rattle.aml_parse.proofs.Common.{IsEnd, setting_of, ReadsStep, Within, text_there, read_on}
use Rattle.std.proofs.Math.Seq.{take-append-add}
use Rattle.std.specs.FinSet as set
use Rattle.aml_parse.specs.Reading.{read_at, step_at}
use Rattle.aml_parse.proofs.FlatReads.{Answers, made}
use Rattle.aml_parse.proofs.Readings.{read_law}

-- what a span of the code is made of
span_within : (code : List ℕ) (at end : ℕ) → IsBytes code → at ≤ end → end ≤ length code → IsEnd code at end
    → Within code at end (slice_of code at (end - at))
span_within code at end fits le inside is_end =
    let rest = drop at code in
    let size = end - at in
    record {
      before = take at code;
      behind = drop size rest;
      text = sym (ap (λ (b : List ℕ). take at code ++ b) (take-append-drop size rest) ∙ take-append-drop at code);
      offset = omega (arith, length-take at code, le, inside);
      place = omega (arith, length-take size rest, length-drop at code, le, inside);
      is_end = is_end;
      fits = IsBytes-take size rest (IsBytes-drop at code fits);
    }

module _ (arity : Arities) (levels : ℕ) (p : Position) (code : List ℕ) (at end : ℕ) where
  pub step_reads : IsBytes code → at ≤ end → end ≤ length code → IsEnd code at end → 512 ≤ levels + at
      → Answers (setting_of arity None code) (λ x. ReadsStep arity levels p code at end x.0 x.1) (step_at arity levels p code at end)
  unfolding step_at
  step_reads fits le inside is_end deep =
      let s = setting_of arity None code in
      let bytes = slice_of code at (end - at) in
      let w = span_within code at end fits le inside is_end in
      made s _ _ _ _ ((read_law s levels).reads p at end set.empty bytes w deep) (λ x a.
      let long : length bytes ≡ length (encoding code x.0) + length x.2 = ap length a.takes.parts ∙ length-append (encoding code x.0) x.2 in
      record {
        lawful = a.is.0;
        spelled = text_there code at end bytes (encoding code x.0) x.2 w a.takes.parts;
        ends = omega (arith, long, w.place);
        inside = omega arith;
        bodies = a.is.1;
      })

  pub step_again : (t : Tree) (behind : ℕ) → end ≤ length code → ReadsStep arity levels p code at end t behind
      → step_at arity levels p code at end ≡ Ok (t, behind)
  unfolding step_at
  step_again t behind inside h =
      let s = setting_of arity None code in
      let text = encoding code t in
      let there = h.spelled in
      let rest = take (end - behind) there.behind in
      let size : end - at ≡ length text + (end - behind) = omega (arith, h.ends, h.inside) in
      let split : slice_of code at (end - at) ≡ text ++ rest =
      ap (λ (c : List ℕ). slice_of c at (end - at)) there.whole
      ∙ ap (take (end - at)) (drop_at there.before (text ++ there.behind) at (sym there.offset))
      ∙ ap (λ (n : ℕ). take n (text ++ there.behind)) size ∙ take-append-add text there.behind (end - behind) in
      let room : length code ≡ at + (length text + length there.behind) =
      ap length there.whole ∙ length-append there.before (text ++ there.behind) ∙ omega (arith, there.offset, length-append text there.behind) in
      let left : length rest ≡ end - behind = omega (arith, length-take (end - behind) there.behind, room, inside, h.ends) in
      let place : at + length (text ++ rest) ≡ end = omega (arith, length-append text rest, left, h.ends, h.inside) in
      let behind_is : end - length rest ≡ behind = omega (arith, left, h.inside) in
      read_on _ _ _ _ (ap (read_at arity None levels p end set.empty) split
      ∙ (read_law s levels).again p end set.empty t rest h.lawful (inr (at, place, h.bodies)))
      (ap (λ (n : ℕ). Ok (t, n)) behind_is)
