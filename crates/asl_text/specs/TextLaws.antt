-- What an output prints where it is told pieces one after the other.
use Rattle.std.specs.Prelude.{◌≡◌, ℕ, Bool, List, [], true, false, ◌++◌, Option, Some, flat_map}
use Rattle.std.specs.List.{fold}
use Rattle.std.proofs.Common.{refl, sym, subst, ap, ap₂, append-nil, append_assoc, ◌∙◌}
use Rattle.std.proofs.lemmas.Grind.{flat_map-append, fold-append}
use Rattle.aml_code.specs.Pieces.{Told}
use Rattle.asl_text.specs.Pieces.{piece_text}
use Rattle.asl_text.specs.declared.bounded.Bounded.{Bounded}
use Rattle.asl_text.specs.Tables.{Grew, Made, MakesOf, grown, made, made_so_far, printed}
use Rattle.asl_text.specs.declared.tables.Place.{Place}
use Rattle.asl_text.specs.declared.tables.TableLines.{TableLines}
use Rattle.text_writer.specs.declared.output.Out.{Out}
unfoldable use Rattle.text_writer.specs.Prints.{Prints}
use Rattle.text_writer.specs.Prints.{PrintsBy, waiting}
use Rattle.text_writer.proofs.PrintLaws.{prints_then}

pub told_further : {W : Type 0} (f : W → Option (List ℕ)) (a b c : Out W) (ps qs : List Told)
    → Prints f a b (flat_map piece_text ps) → Prints f b c (flat_map piece_text qs)
    → Prints f a c (flat_map piece_text (ps ++ qs))
told_further f a b c ps qs h g = subst (Prints f a c) (sym (flat_map-append piece_text ps qs))
    (prints_then f a b c (flat_map piece_text ps) (flat_map piece_text qs) h g)

-- ---- a text of a bounded length: what it has, and what waits behind it

abbrev held : Bounded → Option (List ℕ)
held b = Some b.text.items

whole_by : (a b : Bool) (s t : Out Bounded) (text : List ℕ) → PrintsBy a b held s t text → b ≡ false
    → (a ≡ false) × (printed t ≡ printed s ++ text)
whole_by false false s t text p ok = (
  refl,
  ap (λ (l : List ℕ). l ++ waiting t) p.sent.grew ∙ append_assoc s.inner.now.text.items p.bytes (waiting t)
      ∙ ap (λ (l : List ℕ). s.inner.now.text.items ++ l) (sym p.whole)
      ∙ sym (append_assoc s.inner.now.text.items (waiting s) text),
)
whole_by false true s t text p ok = absurd cc
whole_by true true s t text p ok = absurd cc
whole_by true false s t text p ok = absurd p

-- where it didn't fail, it has the text behind what it had
pub prints_whole : (s t : Out Bounded) (text : List ℕ) → Prints held s t text → t.failed ≡ false
    → (s.failed ≡ false) × (printed t ≡ printed s ++ text)
unfolding Prints
prints_whole s t text p ok = whole_by s.failed t.failed s t text p ok

-- ---- what a table's text grows by

pub grew_none : (s : TableLines) → Grew s s []
grew_none s = (refl, λ ok. (ok, refl))

pub grew_further : (a b c : TableLines) (ps qs : List Told) → Grew a b ps → Grew b c qs → Grew a c (ps ++ qs)
grew_further a b c ps qs h g = (
  g.0 ∙ h.0,
  λ ok.
      let second = g.1 ok in
      let first = h.1 second.0 in
      (first.0, second.1 ∙ ap (λ (m : Made). fold grown m qs) first.1 ∙ sym (fold-append grown (made_so_far a) ps qs)),
)

-- what a table's text and places are behind what there was
pub grew_from : (old : Out Bounded) (before : List Place) (b : TableLines) (ps : List Told)
    → (b.out.now.inner.ghost_name ≡ old.inner.ghost_name) × (b.out.now.failed ≡ false → (old.failed ≡ false)
    × (made_so_far b ≡ fold grown (record { text = printed old; places = before; level = 0; in_method = false }) ps))
    → MakesOf old b.out.now before b.places.now.items ps
grew_from old before b ps grows = (
  grows.0,
  λ ok.
      let told = grows.1 ok in
      (told.0, ap (λ (m : Made). m.text) told.1, ap (λ (m : Made). m.places) told.1),
)

-- what an output has that began with nothing, once all went out
pub made_whole : (begun mid ended : Out Bounded) (before after : List Place) (ps : List Told) → printed begun ≡ []
    → before ≡ [] → MakesOf begun mid before after ps → Prints held mid ended []
    → (ended.failed ≡ false) × (waiting ended ≡ [])
    → (ended.inner.now.text.items ≡ (made ps).text) × (after ≡ (made ps).places)
made_whole begun mid ended before after ps none nowhere grows ends out =
    let last = prints_whole mid ended [] ends out.0 in
    let told = grows.1 last.0 in
    let from = ap₂ (λ (l : List ℕ) (at : List Place). fold grown (record { text = l; places = at; level = 0; in_method = false }) ps)
    none nowhere in (
      sym (append-nil ended.inner.now.text.items) ∙ ap (λ (l : List ℕ). ended.inner.now.text.items ++ l) (sym out.1) ∙ last.1
          ∙ append-nil (printed mid) ∙ told.1 ∙ ap (λ (m : Made). m.text) from,
      told.2 ∙ ap (λ (m : Made). m.places) from,
    )
