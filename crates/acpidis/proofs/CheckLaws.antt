-- The methods of each table are counted, whatever their order: a mark is added to the table that it names, and what the
-- tables have then, with the marks that are still to come, stays what it was (`counted_more`). The counts begin at
-- nothing and end where no mark is left (`counted_all`).
use Rattle.acpidis.proofs.Common.{◌&&◌, list_all, sum_by-cons, at_drop_all, drop_more, get_or_default, set_past, All}
use Rattle.acpidis.proofs.Common.{All-get_or, All-map, All-set, All-weaker, All-nil, All-cons, ◌≡◌, ℕ, zero, suc, ◌+◌}
use Rattle.acpidis.proofs.Common.{◌<◌, ◌≤◌, nat_eq, Bool, true, false, cond, List, [], ◌∷◌, map, drop, length, get_or}
use Rattle.acpidis.proofs.Common.{set, inl, inr, Result, refl, sym, ap, ap₂, ◌∙◌, arith, CodeFault, Trees, AreShort}
use Rattle.acpidis.proofs.Common.{Kept, OneBlock, blocks_of, marks_in, IsUnder, Under, added, uncounted, tally, tallied}
use Rattle.acpidis.proofs.Common.{tried_mark, tried_marks, Checked, Mark}
use Rattle.std.proofs.lemmas.Bool.{cases_lt}
use Rattle.std.proofs.lemmas.Bool.Decides.{nat_tests}
use Rattle.aml_text.proofs.Pairs.{pairs_many, pair_there}

-- ---- one table

same_check : (b m n r s : ℕ) (x y : Bool) → m ≡ n → r ≡ s → x ≡ y
    → ◌≡◌ {A = Checked} (record { bytes = b; methods = m; raw = r; same = x }) (record { bytes = b; methods = n; raw = s; same = y })
same_check b m n r s x y e f g = λ i. record { bytes = b; methods = e i; raw = f i; same = g i }

and_all : (a b c : Bool) → a && (b && c) ≡ (a && b) && c
and_all true b c = refl
and_all false b c = refl

and_true : (a : Bool) → a && true ≡ a
and_true true = refl
and_true false = refl

-- a mark of this table, or of another
tally_more : (mine : Bool) (m : Mark) (inside : List Mark) (c : Checked)
    → tally (cond mine (m ∷ inside) inside) c ≡ tally inside (cond mine (added m c) c)
tally_more false m inside c = refl
tally_more true m inside c =
    same_check c.bytes _ _ _ _ _ _ (omega arith) (omega (arith, sum_by-cons (λ x. cond x.raw 1 0) m inside))
    (and_all c.same m.same (list_all (λ x. x.same) inside))

here : (m : Mark) (marks : List Mark) (t : ℕ) (c : Checked) (mine : Bool) → nat_eq m.table t ≡ mine
    → tally (marks_in t (m ∷ marks)) c ≡ tally (marks_in t marks) (cond mine (added m c) c)
here m marks t c mine is = rw is (tally_more mine m (marks_in t marks) c)

-- ---- all tables

-- those behind the table of a mark
behind : (m : Mark) (marks : List Mark) (t : ℕ) (cs : List Checked) → m.table < t
    → tallied (m ∷ marks) t cs ≡ tallied marks t cs
behind m marks t [] h = refl
behind m marks t (c ∷ cs) h =
    let other : nat_eq m.table t ≡ false = grind (arith, nat_tests) in ap₂ ◌∷◌ (here m marks t c false other) (behind m marks (suc t) cs (omega (arith, h)))

counted_at : (m : Mark) (marks : List Mark) (t n : ℕ) (cs : List Checked) (other : Checked) → m.table ≡ t + n
    → tallied (m ∷ marks) t cs ≡ tallied marks t (set cs n (added m (get_or cs n other)))
counted_at m marks t n [] other h = refl
counted_at m marks t zero (c ∷ cs) other h =
    let mine : nat_eq m.table t ≡ true = grind (arith, nat_tests) in ap₂ ◌∷◌ (here m marks t c true mine) (behind m marks (suc t) cs (omega (arith, h)))
counted_at m marks t (suc n) (c ∷ cs) other h =
    let different : nat_eq m.table t ≡ false = grind (arith, nat_tests) in
    ap₂ ◌∷◌ (here m marks t c false different) (counted_at m marks (suc t) n cs other (omega (arith, h)))

none_counted : (t : ℕ) (cs : List Checked) → tallied [] t cs ≡ cs
none_counted t [] = refl
none_counted t (c ∷ cs) = ap₂ ◌∷◌ (same_check c.bytes _ _ _ _ _ _ (omega arith) (omega arith) (and_true c.same)) (none_counted (suc t) cs)

-- ---- bounds

pub under_new : (blocks : List OneBlock) → Under 1 (map uncounted blocks)
under_new blocks = All-map (IsUnder 1) uncounted blocks (λ k d h. (omega arith, omega arith))

one_at_most : (b : Bool) → cond b 1 0 ≤ 1
one_at_most true = omega arith
one_at_most false = omega arith

under_added : (n k : ℕ) (m : Mark) (cs : List Checked) (other : Checked) → Under n cs
    → Under (n + 1) (set cs k (added m (get_or cs k other)))
under_added n k m cs other u =
    let more = All-weaker (IsUnder n) (IsUnder (n + 1)) (λ c b. (omega (arith, b.0), omega (arith, b.1))) cs u in
    elim (cases_lt k (length cs)) [
      | inl h ↦
          let was = All-get_or (IsUnder n) cs k other h u in
          All-set (IsUnder (n + 1)) cs k (added m (get_or cs k other)) (omega (arith, was.0), omega (arith, was.1, one_at_most m.raw)) more
      | inr h ↦ rw (set_past cs k (added m (get_or cs k other)) h) more
    ]

-- ---- the loops

abbrev pub no_check : Checked
no_check = record { bytes = 0; methods = 0; raw = 0; same = false }

-- the first n marks are counted, from these counts on
pub record Counted (marks : List Mark) (n : ℕ) (first now : List Checked) : Type 0 where
  pub under : Under (n + 1) now
  pub rest : tallied (drop n marks) 0 now ≡ tallied marks 0 first

module _ (ms : List Kept) (ds : List (Result Bool CodeFault)) (each : length ds ≡ length ms) where
  many : length (tried_marks ms ds) ≡ length ms
  many = pairs_many (λ (p : Kept × Result Bool CodeFault). tried_mark p.0.table p.1) ms ds each

  -- one more, by what was tried of a method's body
  pub counted_more : (n : ℕ) (m : Kept) (d : Result Bool CodeFault) (mark : Mark) (first now more : List Checked)
      → n < length ms → m ≡ get_or ms n m
      → mark ≡ tried_mark m.table (get_or ds n d)
      → ((other : Checked) → more ≡ set now mark.table (added mark (get_or now mark.table other)))
      → Counted (tried_marks ms ds) n first now → Counted (tried_marks ms ds) (n + 1) first more
  counted_more n m d mark first now more inside here is grown was =
      let marks = tried_marks ms ds in
      let there = is ∙ pair_there (λ (p : Kept × Result Bool CodeFault). tried_mark p.0.table p.1) ms ds each n m (get_or ds n d) mark inside here
      (get_or_default ds n d (get_or ds n d) (omega arith)) in
      let cut : drop n marks ≡ mark ∷ drop (n + 1) marks =
      drop_more marks n mark (omega (arith, many)) ∙ ap (λ x. x ∷ drop (n + 1) marks) (sym there) in record {
        under = rw (grown no_check) (under_added (n + 1) mark.table mark now no_check was.under);
        rest = ap (tallied (drop (n + 1) marks) 0) (grown no_check) ∙ sym (counted_at mark (drop (n + 1) marks) 0 mark.table now no_check (omega arith))
            ∙ ap (λ left. tallied left 0 now) (sym cut) ∙ was.rest;
      }

  pub counted_all : (n : ℕ) (first now : List Checked) → length ms ≤ n → Counted (tried_marks ms ds) n first now
      → now ≡ tallied (tried_marks ms ds) 0 first
  counted_all n first now past was =
      sym (at_drop_all (λ marks. tallied marks 0 now) (tried_marks ms ds) n (omega (arith, many)) ∙ none_counted 0 now) ∙ was.rest

-- the AML of each block is no longer than a table
pub short_blocks : (names codes : List (List ℕ)) (terms : List Trees) → AreShort codes
    → All (λ b. length b.code ≤ 16777216) (blocks_of names codes terms)
short_blocks [] codes terms h = All-nil (λ (b : OneBlock). length b.code ≤ 16777216)
short_blocks (n ∷ names) [] terms h = All-nil (λ (b : OneBlock). length b.code ≤ 16777216)
short_blocks (n ∷ names) (c ∷ codes) [] h = All-nil (λ (b : OneBlock). length b.code ≤ 16777216)
short_blocks (n ∷ names) (c ∷ codes) (ts ∷ terms) h =
    All-cons (λ (b : OneBlock). length b.code ≤ 16777216) (record { name = n; code = c; terms = ts }) (blocks_of names codes terms) h.0
    (short_blocks names codes terms h.1)
