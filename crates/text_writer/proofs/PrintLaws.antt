-- Printing one text and then another prints both: by whether a fault came before, in the first or in the second. So the
-- text of a list is printed item by item. Below it what the writer itself does: a text that waits, one that is sent,
-- and what its caller learns at the end.
use Prim.Native.String.{String}
use Rattle.std.proofs.Common.{codes, flat_map, get_or, subst, ◌≡◌, ℕ, ◌+◌, ◌-◌, ◌^◌, ◌<◌, ◌≤◌, min, length-take, List}
use Rattle.std.proofs.Common.{[], ◌∷◌, ◌++◌, length, take, drop, Bool, true, false, nat_lt, Result, Ok, Err, OnOk}
use Rattle.std.proofs.Common.{IfErr, Option, append-nil, refl, sym, ap, ◌∙◌, append_assoc, length-append, length-drop}
use Rattle.std.proofs.Common.{take-append-drop, arith}
use Rattle.std.specs.Io.KnownBytes.{Appends}
use Rattle.std.proofs.KnownBytes.{Appends-nil, Appends-trans}
use Rattle.std.proofs.Math.Seq.{take-add}
use Rattle.std.proofs.lemmas.List.{flat_map_more, get_or_default, take_all, take_more}
use Rattle.std.proofs.lemmas.Bool.Decides.{nat_tests}
use Rattle.text_writer.specs.Prints.{word, waiting, Sends, Went, PrintsBy, Prints, Writes}
use Rattle.text_writer.specs.declared.output.Out.{Out}
use Rattle.text_writer.specs.declared.output.WriteFault.{WriteFault}

-- what is sent after a first part, of a text after a first text
joined_whole : (before now xs ys sent more end : List ℕ) → before ++ xs ≡ sent ++ now → now ++ ys ≡ more ++ end
    → before ++ (xs ++ ys) ≡ (sent ++ more) ++ end
joined_whole before now xs ys sent more end p q =
    sym (append_assoc before xs ys) ∙ ap (λ l. l ++ ys) p ∙ append_assoc sent now ys ∙ ap (λ l. sent ++ l) q ∙ sym (append_assoc sent more end)

flat_map_turn : {X : Type 0} (g : X → List ℕ) (xs : List X) (i : ℕ) (x : X) → i < length xs → x ≡ get_or xs i x
    → flat_map g (take i xs) ++ g x ≡ flat_map g (take (i + 1) xs)
flat_map_turn g xs i x h e =
    ap (λ y. flat_map g (take i xs) ++ g y) e ∙ flat_map_more g [] (take i xs) (get_or xs i x) ∙ sym (ap (flat_map g) (take_more xs i x h))

module _ {W : Type 0} (f : W → Option (List ℕ)) where
  Sends-nil : (s : Out W) → Sends f s s []
  Sends-nil s = record { same = refl; grew = Appends-nil (f s.inner.now); counted = omega arith }

  Sends-trans : (s t u : Out W) (xs ys : List ℕ) → Sends f s t xs → Sends f t u ys → Sends f s u (xs ++ ys)
  Sends-trans s t u xs ys p q = record {
    same = q.same ∙ p.same;
    grew = Appends-trans (f s.inner.now) (f t.inner.now) (f u.inner.now) xs ys p.grew q.grew;
    counted = omega (arith, p.counted, q.counted, length-append xs ys);
  }

  Went-trans : (s t u : Out W) (xs ys now end bytes : List ℕ) → Went f s t xs now → Sends f t u bytes
      → now ++ ys ≡ bytes ++ end
      → Went f s u (xs ++ ys) end
  Went-trans s t u xs ys now end bytes p sent whole = record {
    bytes = p.bytes ++ bytes;
    sent = Sends-trans s t u p.bytes bytes p.sent sent;
    whole = joined_whole (waiting s) now xs ys p.bytes bytes end p.whole whole;
  }

  by_then : (a b c : Bool) (s t u : Out W) (xs ys : List ℕ) → PrintsBy a b f s t xs → PrintsBy b c f t u ys
      → PrintsBy a c f s u (xs ++ ys)
  by_then false false false s t u xs ys p q = Went-trans s t u xs ys (waiting t) (waiting u) q.bytes p q.sent q.whole
  by_then false false true s t u xs ys p q = (q.0, q.1, Went-trans s t u xs ys (waiting t) q.0 q.2.bytes p q.2.sent q.2.whole)
  by_then false true true s t u xs ys p q =
      (p.0 ++ ys, omega (arith, p.1, length-append p.0 ys), Went-trans s t u xs ys p.0 (p.0 ++ ys) [] p.2 q refl)
  by_then true true true s t u xs ys p q = Sends-trans s t u [] [] p q
  by_then a true false s t u xs ys p q = absurd q
  by_then true false c s t u xs ys p q = absurd p

  -- one text, and then another
  pub prints_then : (s t u : Out W) (xs ys : List ℕ) → Prints f s t xs → Prints f t u ys → Prints f s u (xs ++ ys)
  unfolding Prints
  prints_then s t u xs ys p q = by_then s.failed t.failed u.failed s t u xs ys p q

  by_none : (a : Bool) (s : Out W) → PrintsBy a a f s s []
  by_none false s = record { bytes = []; sent = Sends-nil s; whole = append-nil (waiting s) }
  by_none true s = Sends-nil s

  -- nothing
  pub prints_none : (s : Out W) → Prints f s s []
  unfolding Prints
  prints_none s = by_none s.failed s

  -- a fixed word
  pub prints_word : (s t : Out W) (w : String) → Prints f s t (codes w) → Prints f s t (word w)
  unfolding word
  prints_word s t w p = p

  -- one more item of a list
  pub prints_turn : {X : Type 0} (s t u : Out W) (g : X → List ℕ) (xs : List X) (i : ℕ) (x : X)
      → i < length xs → x ≡ get_or xs i x → Prints f s t (flat_map g (take i xs)) → Prints f t u (g x)
      → Prints f s u (flat_map g (take (i + 1) xs))
  prints_turn s t u g xs i x h e p q = subst (Prints f s u) (flat_map_turn g xs i x h e) (prints_then s t u (flat_map g (take i xs)) (g x) p q)

  -- the items have come to their end
  pub prints_end : {X : Type 0} (s t : Out W) (g : X → List ℕ) (xs : List X) (i : ℕ)
      → length xs ≤ i → Prints f s t (flat_map g (take i xs)) → Prints f s t (flat_map g xs)
  prints_end s t g xs i h p = subst (λ ys. Prints f s t (flat_map g ys)) (take_all i xs h) p

pub word_is : (w : String) → word w ≡ codes w
unfolding word
word_is w = refl

pub turned : {X : Type 0} (g : X → List ℕ) (xs : List X) (i j : ℕ) (d : X) → j ≡ i + 1 → i < length xs
    → flat_map g (take j xs) ≡ flat_map g (take i xs) ++ g (get_or xs i d)
turned g xs i j d e h = ap (λ k. flat_map g (take k xs)) e ∙ sym (flat_map_turn g xs i (get_or xs i d) h (get_or_default xs i d (get_or xs i d) h))

-- what the proof of each printing function needs
pub ruleset straight = (prints_then, word_is, prints_none, take_all, turned)

-- ---- the writer

module _ {W : Type 0} (f : W → Option (List ℕ)) where
  -- after a fault nothing is printed
  pub prints_failed : (s : Out W) (xs : List ℕ) → s.failed ≡ true → Prints f s s xs
  unfolding Prints
  prints_failed s xs e = subst (λ b. PrintsBy b b f s s xs) (sym e) (Sends-nil f s)

  by_added : (b : Bool) (s t : Out W) (xs : List ℕ) → Sends f s t [] → waiting t ≡ waiting s ++ xs → PrintsBy b b f s t xs
  by_added false s t xs sent p = record { bytes = []; sent = sent; whole = sym p }
  by_added true s t xs sent p = sent

  -- the text waits, or after a fault it lies where nothing waits any more
  pub prints_added : (s t : Out W) (xs : List ℕ) → t.failed ≡ s.failed
      → t.inner.ghost_name ≡ s.inner.ghost_name
      → f t.inner.now ≡ f s.inner.now → t.wrote ≡ s.wrote → waiting t ≡ waiting s ++ xs
      → Prints f s t xs
  unfolding Prints
  prints_added s t xs e n i w p = subst (λ b. PrintsBy s.failed b f s t xs) (sym e) (by_added s.failed s t xs
      (record { same = n; grew = rw i (Appends-nil (f s.inner.now)); counted = omega (arith, w) }) p)

  by_sent : (b : Bool) (s t : Out W) (xs all : List ℕ) (n : ℕ) → waiting s ++ xs ≡ all
      → Sends f s t (take n all)
      → b ≡ nat_lt n (length all) → waiting t ≡ [] → PrintsBy false b f s t xs
  by_sent false s t xs all n e sent is empty = record {
    bytes = take n all;
    sent = sent;
    whole = e ∙ sym (rw (empty, append-nil) (take_all n all (grind (arith, nat_tests))));
  }
  by_sent true s t xs all n e sent is empty = (
    drop n all,
    let lt : n < length all = grind (arith, nat_tests) in omega (arith, lt, length-drop n all),
    record { bytes = take n all; sent = sent; whole = e ∙ sym (take-append-drop n all) },
  )

  -- what waited and the text were sent, n bytes of them
  pub prints_sent : (s t : Out W) (xs all : List ℕ) (n : ℕ) → s.failed ≡ false → waiting s ++ xs ≡ all
      → t.inner.ghost_name ≡ s.inner.ghost_name
      → Appends (f s.inner.now) (f t.inner.now) (take n all) → n ≤ length all
      → t.wrote ≡ min (s.wrote + n) (2 ^ 64 - 1) → t.failed ≡ nat_lt n (length all) → waiting t ≡ []
      → Prints f s t xs
  unfolding Prints
  prints_sent s t xs all n d e same grew fits count is empty = subst (λ b. PrintsBy b t.failed f s t xs) (sym d)
      (by_sent t.failed s t xs all n e (record { same = same; grew = grew; counted = omega (arith, count, length-take n all) }) is empty)

  -- a fault in the first text is one in both
  pub prints_fault : (s t : Out W) (xs ys : List ℕ) → t.failed ≡ true → Prints f s t xs → Prints f s t (xs ++ ys)
  unfolding Prints
  prints_fault s t xs ys e p = subst (λ b. PrintsBy s.failed b f s t (xs ++ ys)) (sym e)
      (by_then f s.failed true true s t t xs ys (subst (λ b. PrintsBy s.failed b f s t xs) e p) (Sends-nil f t))

  finished : (b : Bool) (s t : Out W) (text : List ℕ) (r : Result (Unit {0}) WriteFault) → s.wrote ≡ 0
      → waiting s ≡ []
      → PrintsBy false b f s t text → OnOk r ((b ≡ false) × (waiting t ≡ []))
      → IfErr r (λ e. (b ≡ true) × (e.wrote ≡ t.wrote))
      → Writes (f s.inner.now) (f t.inner.now) text r
  finished true s t text (Ok _) z e p o q = cc o.0
  finished false s t text (Err _) z e p o q = cc q.0
  finished false s t text (Ok _) z e p o q =
      let all : text ≡ p.bytes = ap (λ l. l ++ text) (sym e) ∙ p.whole ∙ ap (λ l. p.bytes ++ l) o.1 ∙ append-nil p.bytes in
      rw all p.sent.grew
  finished true s t text (Err x) z e p o q = record {
    bytes = p.2.bytes;
    rest = p.0;
    whole = ap (λ l. l ++ text) (sym e) ∙ p.2.whole;
    short = p.1;
    grew = p.2.sent.grew;
    counted = omega (arith, q.1, p.2.sent.counted, z);
  }

  -- what a caller learns once all is printed and sent
  pub writes_listing : (s t u : Out W) (text : List ℕ) (r : Result (Unit {0}) WriteFault) → s.failed ≡ false
      → s.wrote ≡ 0 → waiting s ≡ []
      → Prints f s t text → Prints f t u [] → OnOk r ((u.failed ≡ false) × (waiting u ≡ []))
      → IfErr r (λ e. (u.failed ≡ true) × (e.wrote ≡ u.wrote)) → Writes (f s.inner.now) (f u.inner.now) text r
  unfolding Prints
  writes_listing s t u text r d z e p q o h =
      finished u.failed s u text r z e (subst (λ b. PrintsBy b u.failed f s u text) d
      (rw append-nil at (by_then f s.failed t.failed u.failed s t u text [] p q))) o h

  by_same : (a b : Bool) (s t : Out W) (text : List ℕ) → PrintsBy a b f s t text
      → t.inner.ghost_name ≡ s.inner.ghost_name
  by_same false false s t text p = p.sent.same
  by_same false true s t text p = p.2.sent.same
  by_same true true s t text p = p.same
  by_same true false s t text p = absurd p

  -- the writer behind it stays the same
  pub prints_same : (s t : Out W) (text : List ℕ) → Prints f s t text → t.inner.ghost_name ≡ s.inner.ghost_name
  unfolding Prints
  prints_same s t text = by_same s.failed t.failed s t text

-- so many bytes more of a text
pub taken_more : (done n : ℕ) (bs : List ℕ)
    → take done bs ++ take n (take (length bs - done) (drop done bs)) ≡ take (done + n) bs
taken_more done n bs =
    rw (take_all (length bs - done) (drop done bs) (omega (arith, length-drop done bs))) (sym (take-add done n bs))
