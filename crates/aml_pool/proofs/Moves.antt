-- Each kind of step is a change of the claim machine, and keeps the board's rule: a draw (`draws`), by whether a number
-- is left; a look, which changes nothing (`looks`); a split (`splits`), a join (`joins`), and the end (`closes`). So
-- the board follows the machine (`follows_machine`).
use Rattle.std.proofs.Common.{◌≡◌, ◌≢◌, ℕ, zero, suc, ◌+◌, ◌%◌, ◌<◌, ◌≤◌, List, [], ◌∷◌, ◌++◌, length, map, set, true}
use Rattle.std.proofs.Common.{refl, sym, ap, ap₂, ◌∙◌, subst, ⊎_elim, arith, get_or, length-set, get_or-set_same, min}
use Rattle.std.specs.Prelude.{nat_lt, ◌||◌, Option, Some, None}
use Rattle.std.proofs.lemmas.List.{map-set, map-append}
use Rattle.std.proofs.lemmas.Bool.{lt-ltb}
use mathlib.Core.Logic.{dite}
use native.Mathlib.Decide.{dec_lt}
use mathlib.Core.Option.{none, some, some-injective, some-ne-none}
use lib.ListN.{get_elem?}
use Rattle.atomic_table.specs.Table.{State, Me, step, keeps, stepped, Allows, Splits, Joins as TableJoins, Final, Seen}
use Rattle.atomic_table.proofs.Lists.{at_set, at_snoc, at_map, set_again, set_here, set_else}
use lib.Seq.{set-get_or}
use Rattle.aml_pool.specs.declared.board.View.{View}
use Rattle.aml_pool.specs.Counting.{times, once_below, total, IsOnce}
use Rattle.aml_pool.specs.Machine.{Claimant, Claims, by_draw, by_split, by_join, Draws, Opens, Joins, IsDraw, newcomer}
use Rattle.aml_pool.specs.Machine.{together, claims, view, claimant, claims_shown, spent, Fits, IsRuled, TellsDraw}
use Rattle.aml_pool.specs.Machine.{TellsLook, kept, given, joined, FollowsMachine}
use Rattle.aml_pool.proofs.Counts.{total_set, total_more, total_le, total_at, total-map, total_only}
use Rattle.aml_pool.proofs.Runs.{counted, sound, stands_below, stands_once}

min_below : (m n : ℕ) → m < n → min m n ≡ m
min_below m n l = grind arith

min_above : (m n : ℕ) → n ≤ m → min m n ≡ n
min_above m n l = grind arith

fits_set : (count : ℕ) (views : List View) (by : ℕ) (w : View)
    → ((id : ℕ) (v : View) → get_elem? views id ≡ some v → Fits count v) → Fits count w
    → (id : ℕ) (v : View) → get_elem? (set views by w) id ≡ some v → Fits count v
fits_set count views by w others mine id v e =
    ⊎_elim
    (λ (t : (id ≡ by) × (w ≡ v)). subst (Fits count) t.1 mine)
    (λ (t : (id ≢ by) × (get_elem? views id ≡ some v)). others id v t.1)
    (at_set views by id w v e)

fits_more : (count : ℕ) (views : List View) (w : View)
    → ((id : ℕ) (v : View) → get_elem? views id ≡ some v → Fits count v) → Fits count w
    → (id : ℕ) (v : View) → get_elem? (views ++ w ∷ []) id ≡ some v → Fits count v
fits_more count views w others mine id v e =
    ⊎_elim (λ (t : get_elem? views id ≡ some v). others id v t) (λ (t : w ≡ v). subst (Fits count) t mine) (at_snoc views w v id e)

-- a place that there is
is_place : {A : Type 0} (xs : List A) (i : ℕ) (a : A) → get_elem? xs i ≡ some a → i < length xs
is_place [] i a e = absurd (some-ne-none a (sym e))
is_place (x ∷ xs) zero a e = omega arith
is_place (x ∷ xs) (suc i) a e = let h = is_place xs i a e in omega arith

module _ (count id : ℕ) (v : View) (s : State (Unit {0}) View) (h : IsRuled count s) (at : get_elem? s.views id ≡ some v) where
  abbrev word : ℕ
  word = get_or s.words 0 0

  abbrev shown : Claims
  shown = claims_shown count s

  -- the state after a draw that leaves the seat with the view w
  abbrev then : View → List (ℕ × Unit {0}) → State (Unit {0}) View
  then w c = stepped s 0 (word + 1) id c w keeps

  word_then : get_or (set s.words 0 (word + 1)) 0 0 ≡ word + 1
  word_then = get_or-set_same s.words 0 (word + 1) 0 (let one = h.one_word in omega arith)

  stands : get_elem? shown.seats id ≡ some (claimant v)
  stands = at_map claimant s.views id v at

  -- a draw while a number is left
  taken : (c : List (ℕ × Unit {0})) → word < count
      → claims_shown count (then (view count v.weight (v.numbers ++ word ∷ []) v.nones) c)
      ≡ record { next = shown.next + 1; seats = set shown.seats id record { numbers = v.numbers ++ shown.next ∷ []; ended = nat_lt 0 v.nones } }
  taken c few =
      let w : View = view count v.weight (v.numbers ++ word ∷ []) v.nones in
      let next : shown.next ≡ word = min_below word count few in
      let next_then : min (get_or (set s.words 0 (word + 1)) 0 0) count ≡ shown.next + 1 = ap (λ n. min n count) word_then
      ∙ (let l : min (word + 1) count ≡ word + 1 = grind arith in l ∙ ap (λ n. n + 1) (sym next)) in
      let seats : map claimant (set s.views id w) ≡ set shown.seats id record { numbers = v.numbers ++ shown.next ∷ []; ended = nat_lt 0 v.nones } =
      map-set claimant s.views id w ∙ ap (λ n. set shown.seats id record { numbers = v.numbers ++ n ∷ []; ended = nat_lt 0 v.nones }) (sym next) in
      λ i. record { next = next_then i; seats = seats i }

  -- a draw when none is left
  missed : (c : List (ℕ × Unit {0})) → count ≤ word
      → claims_shown count (then (view count v.weight v.numbers (v.nones + 1)) c)
      ≡ record { next = shown.next; seats = set shown.seats id record { numbers = v.numbers; ended = true } }
  missed c all =
      let w : View = view count v.weight v.numbers (v.nones + 1) in
      let next_then : min (get_or (set s.words 0 (word + 1)) 0 0) count ≡ shown.next = ap (λ n. min n count) word_then
      ∙ (min_above (word + 1) count (omega arith) ∙ sym (min_above word count all)) in
      let ends : nat_lt 0 (v.nones + 1) ≡ true = lt-ltb 0 (v.nones + 1) (omega arith) in
      let seats : map claimant (set s.views id w) ≡ set shown.seats id record { numbers = v.numbers; ended = true } = map-set claimant s.views id w
      ∙ ap (λ e. set shown.seats id record { numbers = v.numbers; ended = e }) ends in
      λ i. record { next = next_then i; seats = seats i }

  -- so each draw is one draw of the machine
  draws_few : (c : List (ℕ × Unit {0})) → word < count → Draws count id shown (Some word)
      (claims_shown count (then (view count v.weight (v.numbers ++ word ∷ []) v.nones) c))
  draws_few c few = let next : shown.next ≡ word = min_below word count few in (
    claimant v,
    stands,
    (λ _. (ap (λ n. Some n) (sym next), taken c few)),
    (λ many. absurd (omega arith)),
  )

  draws_none : (c : List (ℕ × Unit {0})) → count ≤ word
      → Draws count id shown None (claims_shown count (then (view count v.weight v.numbers (v.nones + 1)) c))
  draws_none c all = let next : shown.next ≡ count = min_above word count all in (
    claimant v,
    stands,
    (λ few. absurd (omega arith)),
    (λ _. (refl, missed c all)),
  )

  -- the view of the seat stands in its place afterwards
  stands_then : (w : View) (c : List (ℕ × Unit {0}))
      → get_elem? (claims_shown count (then w c)).seats id ≡ some (claimant w)
  stands_then w c = at_map claimant (set s.views id w) id w (set_here s.views id w (is_place s.views id v at))

  is_draw : (w : View) (c : List (ℕ × Unit {0})) (answer : Option ℕ)
      → Draws count id shown answer (claims_shown count (then w c))
      → IsDraw count (claimant v) answer (claimant w)
  is_draw w c answer d = record {
    past = h.past;
    from = shown;
    to = claims_shown count (then w c);
    seat = id;
    reached = h.run;
    draws = d;
    shows = stands;
    shows_then = stands_then w c;
  }

  -- and keeps the rule
  ruled : (w : View) (c : List (ℕ × Unit {0})) (answer : Option ℕ)
      → Draws count id shown answer (claims_shown count (then w c)) → w.weight ≡ v.weight
      → Fits count w → min (word + 1) count + w.nones ≡ min word count + v.nones + 1 → IsRuled count (then w c)
  ruled w c answer drew same fits one =
      let nones = total_set (λ u. u.nones) s.views id v w at in
      let weights = total_set (λ u. u.weight) s.views id v w at in
      let is = h.answers in
      let more : word + 1 ≡ min (word + 1) count + total (λ u. u.nones) (set s.views id w) = omega arith in record {
        past = by_draw id ∷ h.past;
        run = (shown, h.run, (answer, drew));
        one_word = length-set s.words 0 (word + 1) ∙ h.one_word;
        event_each = word_then ∙ ap (λ n. n + 1) h.event_each;
        answers = subst (λ n. n ≡ min n count + total (λ u. u.nones) (set s.views id w)) (sym word_then) more;
        limit = h.limit;
        weights = let was = h.weights in omega arith;
        fits = fits_set count s.views id w h.fits fits;
      }

  takes : (c : List (ℕ × Unit {0})) → 0 < v.weight → word < count
      → IsRuled count (then (view count v.weight (v.numbers ++ word ∷ []) v.nones) c)
  takes c mine few =
      let low = min_below word count few in let then_low : min (word + 1) count ≡ word + 1 = grind arith in
      ruled (view count v.weight (v.numbers ++ word ∷ []) v.nones) c (Some word) (draws_few c few) refl
      ((h.fits id v at).0, (λ z. absurd (omega arith)), (λ _. refl)) (omega arith)

  misses : (c : List (ℕ × Unit {0})) → 0 < v.weight → v.nones ≡ 0 → count ≤ word
      → IsRuled count (then (view count v.weight v.numbers (v.nones + 1)) c)
  misses c mine going all =
      let high = min_above word count all in let then_high = min_above (word + 1) count (omega arith) in
      ruled (view count v.weight v.numbers (v.nones + 1)) c None (draws_none c all) refl (omega arith, (λ z. absurd (omega arith)), (λ _. refl)) (omega arith)

  small : word ≤ count + 64
  small =
      let few = total_le (λ u. u.nones) (λ u. u.weight) s.views (λ j u e. (h.fits j u e).0) in
      let is = h.answers in let whole = h.weights in let low : min word count ≤ count = grind arith in omega arith

pub draws : (count slots id : ℕ) (me : Me (Unit {0}) View) → me.0.count ≡ count → 0 < me.0.weight → me.0.nones ≡ 0
    → Allows (IsRuled count) slots id me 0 (λ n. (n + 1) % 18446744073709551616) (TellsDraw (step slots 0 1 0 none) me)
draws count slots id me mine some_weight going s h none_there at fits =
    let word : ℕ = get_or s.words 0 0 in
    let limit = small count id me.0 s h at in
    let most = h.limit in
    let whole : word + 1 ≡ (word + 1) % 18446744073709551616 = grind arith in
    dite (dec_lt word count)
    (λ few.
    let w : View = view count me.0.weight (me.0.numbers ++ word ∷ []) me.0.nones in (
      w,
      keeps,
      tt,
      subst (λ n. IsRuled count (stepped s 0 n id me.1 w keeps)) whole (takes count id me.0 s h at me.1 some_weight few),
      (
        (
          (λ _. (
            ap (λ c. view c me.0.weight (me.0.numbers ++ word ∷ []) me.0.nones) (sym mine),
            subst (λ c. IsDraw c (claimant me.0) (Some word) (claimant w)) (sym mine)
                (is_draw count id me.0 s h at w me.1 (Some word) (draws_few count id me.0 s h at me.1 few)),
          )),
          (λ many. absurd (omega arith)),
        ),
        refl,
      ),
    ))
    (λ many.
    let all : count ≤ word = omega arith in
    let w : View = view count me.0.weight me.0.numbers (me.0.nones + 1) in (
      w,
      keeps,
      tt,
      subst (λ n. IsRuled count (stepped s 0 n id me.1 w keeps)) whole (misses count id me.0 s h at me.1 some_weight going all),
      (
        (
          (λ few. absurd (omega arith)),
          (λ _. (
            ap (λ c. view c me.0.weight me.0.numbers (me.0.nones + 1)) (sym mine),
            subst (λ c. IsDraw c (claimant me.0) None (claimant w)) (sym mine)
                (is_draw count id me.0 s h at w me.1 None (draws_none count id me.0 s h at me.1 all)),
          )),
        ),
        refl,
      ),
    ))

-- a number that is drawn is above all that the seat drew before
pub draw_low : (count n : ℕ) (before after : Claimant) → IsDraw count before (Some n) after → (x : ℕ)
    → 0 < times x before.numbers → x < n
draw_low count n before after d x here =
    let low = stands_below count d.past d.from d.seat before d.reached d.shows x here in
    dite (dec_lt d.from.next count)
    (λ few. let is : Some n ≡ Some d.from.next = (d.draws.2 few).0 in let same : n ≡ d.from.next = cc in omega arith)
    (λ all. let none : Some n ≡ None = (d.draws.3 (omega arith)).0 in absurd (cc))

-- a look at the word changes nothing
looked : (s : State (Unit {0}) View) (id : ℕ) (v : View) (c : List (ℕ × Unit {0})) → get_elem? s.views id ≡ some v
    → stepped s 0 (get_or s.words 0 0) id c v keeps ≡ s
looked s id v c at = λ i. record { words = set-get_or s.words 0 0 i; homes = s.homes; views = set_again s.views id v at i }

pub looks : (count slots id : ℕ) (me : Me (Unit {0}) View)
    → Allows (IsRuled count) slots id me 0 (λ n. n) (TellsLook (step slots 0 0 0 none) me)
looks count slots id me s h none_there at fits = (
  me.0,
  keeps,
  tt,
  subst (IsRuled count) (sym (looked s id me.0 me.1 at)) h,
  (
    refl,
    (let part = total_at (λ u. u.weight) s.views id me.0 at in let all = h.weights in omega arith),
    stands_once count h.past (claims_shown count s) id (claimant me.0) h.run (at_map claimant s.views id me.0 at),
  ),
)

-- a split opens a seat in the machine
opens : (count id part : ℕ) (v : View) (s : State (Unit {0}) View) → get_elem? s.views id ≡ some v
    → Opens (claims_shown count s) (claims_shown count record { words = s.words; homes = s.homes; views = set s.views id (kept part v) ++ given part v ∷ [] })
opens count id part v s at =
    let same : set (map claimant s.views) id (claimant v) ≡ map claimant s.views =
    set_again (map claimant s.views) id (claimant v) (at_map claimant s.views id v at) in
    let seats : map claimant (set s.views id (kept part v) ++ given part v ∷ []) ≡ map claimant s.views ++ newcomer ∷ [] =
    map-append claimant (set s.views id (kept part v)) (given part v ∷ []) ∙ ap (λ l. l ++ newcomer ∷ []) (map-set claimant s.views id (kept part v) ∙ same) in
    ap (claims (claims_shown count s).next) seats

pub splits : (count id part : ℕ) (v : View) → 0 < part → part < v.weight → v.nones ≡ 0
    → Splits (IsRuled count) id v (kept part v) (given part v)
splits count id part v some_part less going s h at =
    let views = set s.views id (kept part v) in
    let sum : (f : View → ℕ) → f (kept part v) + f (given part v) ≡ f v → total f (views ++ given part v ∷ []) ≡ total f s.views = λ f same. let a =
    total_set f s.views id v (kept part v) at in let b = total_more f views (given part v) in omega arith in
    let fits = h.fits id v at in
    let nones = sum (λ u. u.nones) (omega (arith, going)) in record {
      past = by_split ∷ h.past;
      run = (claims_shown count s, h.run, opens count id part v s at);
      one_word = h.one_word;
      event_each = h.event_each;
      answers = let is = h.answers in omega arith;
      limit = h.limit;
      weights = let was = h.weights in let all = sum (λ u. u.weight) (omega arith) in omega arith;
      fits = fits_more count views (given part v)
          (fits_set count s.views id (kept part v) h.fits ((let n = fits.0 in omega (arith, going)), (λ z. absurd (omega arith)), (λ l. fits.2 (omega arith))))
          ((omega arith), (λ z. refl), (λ l. fits.2 (omega arith)));
    }

either_none : (m n : ℕ) → nat_lt 0 (m + n) ≡ (nat_lt 0 m || nat_lt 0 n)
either_none zero n = ap (λ k. nat_lt 0 k) (let e : zero + n ≡ n = omega arith in e)
either_none (suc m) n = lt-ltb 0 (suc m + n) (omega arith) ∙ sym (ap (λ b. b || nat_lt 0 n) (lt-ltb 0 (suc m) (omega arith)))

-- a join makes two lists of the machine one
two_in_one : (count id other : ℕ) (v w : View) (s : State (Unit {0}) View) → id ≢ other → get_elem? s.views id ≡ some v
    → get_elem? s.views other ≡ some w
    → Joins id other (claims_shown count s) (claims_shown count record {
      words = s.words;
      homes = s.homes;
      views =
          set (set s.views id (joined v w)) other spent;
    })
two_in_one count id other v w s apart at there =
    let both : claimant (joined v w) ≡ together (claimant v) (claimant w) =
    λ i. record { numbers = v.numbers ++ w.numbers; ended = either_none v.nones w.nones i } in
    let seats : map claimant (set (set s.views id (joined v w)) other spent)
    ≡ set (set (map claimant s.views) id (together (claimant v) (claimant w))) other newcomer =
    map-set claimant (set s.views id (joined v w)) other spent ∙ ap (λ l. set l other newcomer)
    (map-set claimant s.views id (joined v w) ∙ ap (set (map claimant s.views) id) both) in (
      claimant v,
      claimant w,
      apart,
      at_map claimant s.views id v at,
      at_map claimant s.views other w there,
      (λ i. record { next = (claims_shown count s).next; seats = seats i }),
    )

pub joins : (count id other : ℕ) (v w : View) → 0 < v.weight
    → TableJoins (IsRuled count) id v other w (joined v w) spent
joins count id other v w some_weight s h at apart there =
    let views = set s.views id (joined v w) in
    let sum : (f : View → ℕ) → f (joined v w) ≡ f v + f w → f spent ≡ 0 → total f (set views other spent) ≡ total f s.views = λ f both none_left. let a =
    total_set f s.views id v (joined v w) at in let b = total_set f views other w spent there in omega arith in
    let was_there : get_elem? s.views other ≡ some w = sym (set_else s.views id other (joined v w) apart) ∙ there in
    let mine = h.fits id v at in
    let theirs = h.fits other w was_there in
    let nones = sum (λ u. u.nones) refl refl in record {
      past = by_join id other ∷ h.past;
      run = (claims_shown count s, h.run, two_in_one count id other v w s (λ e. apart (sym e)) at was_there);
      one_word = h.one_word;
      event_each = h.event_each;
      answers = let is = h.answers in omega arith;
      limit = h.limit;
      weights = let was = h.weights in let all = sum (λ u. u.weight) refl refl in omega arith;
      fits = fits_set count views other spent
          (fits_set count s.views id (joined v w) h.fits (
            (let a = mine.0 in let b = theirs.0 in omega arith),
            (λ z. ap₂ ◌++◌ (mine.1 (omega arith)) (theirs.1 (omega arith))),
            (λ l. mine.2 some_weight),
          ))
          ((omega arith), (λ z. refl), (λ l. absurd (omega arith)));
    }

-- who has the whole weight has all that was drawn
has_all : (count id : ℕ) (v : View) (s : State (Unit {0}) View) → IsRuled count s → get_elem? s.views id ≡ some v
    → v.weight ≡ 64
    → (x : ℕ) → total (λ c. times x c.numbers) (claims_shown count s).seats ≡ times x v.numbers
has_all count id v s h at whole x =
    let heavy : v.weight ≡ total (λ u. u.weight) s.views = let all = h.weights in omega arith in
    total-map (λ c. times x c.numbers) claimant s.views ∙ total_only (λ u. times x u.numbers) (λ u. u.weight) s.views id v at heavy
    (λ j u e z. ap (times x) ((h.fits j u e).1 z))

first_word : (ws : List ℕ) (word : ℕ) → get_elem? ws 0 ≡ some word → get_or ws 0 0 ≡ word
first_word [] word e = absurd (some-ne-none word (sym e))
first_word (x ∷ xs) word e = some-injective x word e

pub closes : (count id : ℕ) (v : View) (ws : List ℕ) (ss : List (Unit {0})) (word : ℕ)
    → Final (Seen (IsRuled count) id v) ws ss → v.weight ≡ 64
    → get_elem? ws 0 ≡ some word
    → IsOnce v.numbers (min word count) × (0 < v.nones → min word count ≡ count)
closes count id v ws ss word f whole there =
    let s = f.0 in let h : IsRuled count s = f.1.0 in let at : get_elem? s.views id ≡ some v = f.1.1 in
    let found : get_or s.words 0 0 ≡ word = ap (λ l. get_or l 0 0) f.2 ∙ first_word ws word there in
    let next : (claims_shown count s).next ≡ min word count = ap (λ n. min n count) found in (
      (λ x. sym (has_all count id v s h at whole x) ∙ ((counted count h.past (claims_shown count s) h.run).once x ∙ ap (once_below x) next)),
      (λ l.
          let part = total_at (λ u. u.nones) s.views id v at in
          let is : get_or s.words 0 0 ≡ min (get_or s.words 0 0) count + total (λ u. u.nones) s.views = h.answers in
          sym next ∙ (let e : min (get_or s.words 0 0) count ≡ count = grind arith in e)),
    )

pub follows_machine : (count : ℕ) → FollowsMachine count
follows_machine count = record {
  sound = sound count;
  make = ap (λ n. claims n (newcomer ∷ [])) (let e : min 0 count ≡ 0 = grind arith in e);
  split = λ s id part v at. opens count id part v s at;
  draw = λ s id v after h at some_weight drew.
      let mine : v.count ≡ count = (h.fits id v at).2 some_weight in
      let drawn : View → Claims = λ w. claims_shown count (stepped s 0 (get_or s.words 0 0 + 1) id [] w keeps) in
      dite (dec_lt (get_or s.words 0 0) count)
      (λ few.
      let is : after ≡ view count v.weight (v.numbers ++ get_or s.words 0 0 ∷ []) v.nones = (drew.0 (omega arith)).0
      ∙ ap (λ c. view c v.weight (v.numbers ++ get_or s.words 0 0 ∷ []) v.nones) mine in (
        Some (get_or s.words 0 0),
        subst (λ w. Draws count id (claims_shown count s) (Some (get_or s.words 0 0)) (drawn w)) (sym is)
            (draws_few count id v s h at [] few),
      ))
      (λ many.
      let is : after ≡ view count v.weight v.numbers (v.nones + 1) = (drew.1 (omega arith)).0 ∙ ap (λ c. view c v.weight v.numbers (v.nones + 1)) mine in
      (None, subst (λ w. Draws count id (claims_shown count s) None (drawn w)) (sym is) (draws_none count id v s h at [] (omega arith))));
  join = λ s id other v w apart at there. two_in_one count id other v w s apart at there;
  look = λ s id v at. looked s id v [] at;
  close = λ s id v h at whole x. sym (has_all count id v s h at whole x) ∙ (counted count h.past (claims_shown count s) h.run).once x;
}
