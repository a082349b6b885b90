-- Every run of the claim machine leads to a sound state: counted seat by seat (`IsCounted`), which a draw, a split and
-- a join keep, and the opening state has.
use Rattle.std.proofs.Common.{◌≡◌, ◌≢◌, ℕ, ◌+◌, ◌<◌, ◌≤◌, List, [], ◌∷◌, ◌++◌, set, Bool, true, false, sym, ◌∙◌, subst}
use Rattle.std.proofs.Common.{⊎_elim, arith}
use Rattle.std.specs.Prelude.{IsTrue, ◌||◌, Option}
use mathlib.Core.Logic.{dite}
use native.Mathlib.Decide.{dec_lt}
use mathlib.Core.Option.{some, some-ne-none}
use lib.ListN.{get_elem?}
use Rattle.atomic_table.proofs.Lists.{at_set, at_snoc, set_else}
use Rattle.aml_pool.specs.Counting.{times, once_below, total}
use Rattle.aml_pool.specs.Machine.{Claimant, Claims, Change, by_draw, by_split, by_join, Draws, Opens, Joins, IsRun}
use Rattle.aml_pool.specs.Machine.{IsSound, newcomer, together, opening_claims}
use Rattle.aml_pool.proofs.Counts.{times-append, times-flat_map, total_set, total_more, total_at, above_one}
use Rattle.aml_pool.proofs.Counts.{once_below-le, once_below-more}

-- how often x stands in the lists of all seats
abbrev pub drawn_times : ℕ → List Claimant → ℕ
drawn_times x seats = total (λ c. times x c.numbers) seats

-- `IsSound`, counted seat by seat
pub record IsCounted (count : ℕ) (claims : Claims) : Type 0 where
  pub within : claims.next ≤ count
  pub once : (x : ℕ) → drawn_times x claims.seats ≡ once_below x claims.next
  pub drawn : (seat : ℕ) (c : Claimant) → get_elem? claims.seats seat ≡ some c → IsTrue c.ended → claims.next ≡ count

abbrev AllEnd : ℕ → ℕ → List Claimant → Type 0
AllEnd count next seats = (seat : ℕ) (c : Claimant) → get_elem? seats seat ≡ some c → IsTrue c.ended → next ≡ count

end_set : (count next : ℕ) (seats : List Claimant) (by : ℕ) (a : Claimant) → AllEnd count next seats
    → (IsTrue a.ended → next ≡ count)
    → AllEnd count next (set seats by a)
end_set count next seats by a others mine seat c at ended =
    ⊎_elim
    (λ (t : (seat ≡ by) × (a ≡ c)). mine (subst (λ (d : Claimant). IsTrue d.ended) (sym t.1) ended))
    (λ (t : (seat ≢ by) × (get_elem? seats seat ≡ some c)). others seat c t.1 ended)
    (at_set seats by seat a c at)

end_more : (count next : ℕ) (seats : List Claimant) → AllEnd count next seats
    → AllEnd count next (seats ++ newcomer ∷ [])
end_more count next seats others seat c at ended =
    ⊎_elim
    (λ (t : get_elem? seats seat ≡ some c). others seat c t ended)
    (λ (t : newcomer ≡ c). absurd (false_true (subst (λ (d : Claimant). IsTrue d.ended) (sym t) ended)))
    (at_snoc seats newcomer c seat at)
  where
    false_true : IsTrue false → ⊥
    false_true h = cc

draw_keeps : (count seat : ℕ) (before after : Claims) (answer : Option ℕ) → IsCounted count before
    → Draws count seat before answer after
    → IsCounted count after
draw_keeps count seat before after answer h d =
    let me : Claimant = d.0 in
    dite (dec_lt before.next count)
    (λ few.
    let mine : Claimant = record { numbers = me.numbers ++ before.next ∷ []; ended = me.ended } in
    let now : Claims = record { next = before.next + 1; seats = set before.seats seat mine } in
    subst (IsCounted count) (sym (d.2 few).1) (let kept : IsCounted count now = record {
      within = omega arith;
      once = λ x.
          let was = h.once x in
          let each = total_set (λ c. times x c.numbers) before.seats seat me mine d.1 in
          let split = times-append x me.numbers (before.next ∷ []) in
          let one = once_below-more x before.next in omega arith;
      drawn = λ other c at ended. absurd (let all = end_set count before.next before.seats seat mine h.drawn (λ e. h.drawn seat me d.1 e) other c at ended in
          omega arith);
    } in kept))
    (λ all.
    let many : count ≤ before.next = omega arith in
    let inside = h.within in
    let mine : Claimant = record { numbers = me.numbers; ended = true } in
    let now : Claims = record { next = before.next; seats = set before.seats seat mine } in
    subst (IsCounted count) (sym (d.3 many).1) (let kept : IsCounted count now = record {
      within = h.within;
      once = λ x. let was = h.once x in let each = total_set (λ c. times x c.numbers) before.seats seat me mine d.1 in omega arith;
      drawn = end_set count before.next before.seats seat mine h.drawn (λ _. omega arith);
    } in kept))

either_ended : (a b : Bool) (P : Type 0) → (IsTrue a → P) → (IsTrue b → P) → IsTrue (a || b) → P
either_ended true b P l r e = l e
either_ended false b P l r e = r e

join_keeps : (count seat other : ℕ) (before after : Claims) → IsCounted count before → Joins seat other before after
    → IsCounted count after
join_keeps count seat other before after h j =
    let a : Claimant = j.0 in let b : Claimant = j.1 in
    let seats = set before.seats seat (together a b) in
    let there : get_elem? seats other ≡ some b = set_else before.seats seat other (together a b) (λ e. j.2 (sym e)) ∙ j.4 in
    let now : Claims = record { next = before.next; seats = set seats other newcomer } in
    subst (IsCounted count) (sym j.5) (let kept : IsCounted count now = record {
      within = h.within;
      once = λ x.
          let was = h.once x in
          let one = total_set (λ c. times x c.numbers) before.seats seat a (together a b) j.3 in
          let two = total_set (λ c. times x c.numbers) seats other b newcomer there in
          let both = times-append x a.numbers b.numbers in omega arith;
      drawn = end_set count before.next seats other newcomer
          (end_set count before.next before.seats seat (together a b) h.drawn
          (either_ended a.ended b.ended (before.next ≡ count) (h.drawn seat a j.3) (h.drawn other b j.4)))
          (λ e. absurd (cc));
    } in kept)

split_keeps : (count : ℕ) (before after : Claims) → IsCounted count before → Opens before after → IsCounted count after
split_keeps count before after h o =
    let now : Claims = record { next = before.next; seats = before.seats ++ newcomer ∷ [] } in
    subst (IsCounted count) (sym o) (let kept : IsCounted count now = record {
      within = h.within;
      once = λ x. let was = h.once x in let more = total_more (λ c. times x c.numbers) before.seats newcomer in omega arith;
      drawn = end_more count before.next before.seats h.drawn;
    } in kept)

opening_counted : (count : ℕ) → IsCounted count opening_claims
opening_counted count = record {
  within = omega arith;
  once = λ x. sym (above_one x 0 (omega arith));
  drawn = end_more count 0 [] (λ s d e. absurd (some-ne-none d (sym e)));
}

pub counted : (count : ℕ) (past : List Change) (claims : Claims) → IsRun count past claims → IsCounted count claims
counted count [] claims run = subst (IsCounted count) (sym run) (opening_counted count)
counted count (by_draw seat ∷ past) claims run = draw_keeps count seat run.0 claims run.2.0 (counted count past run.0 run.1) run.2.1
counted count (by_split ∷ past) claims run = split_keeps count run.0 claims (counted count past run.0 run.1) run.2
counted count (by_join seat other ∷ past) claims run = join_keeps count seat other run.0 claims (counted count past run.0 run.1) run.2

pub sound : (count : ℕ) (past : List Change) (claims : Claims) → IsRun count past claims → IsSound count claims
sound count past claims run =
    let h = counted count past claims run in record {
      within = h.within;
      once = λ x. times-flat_map x (λ c. c.numbers) claims.seats ∙ h.once x;
      all_drawn = h.drawn;
    }

-- a number of a seat's list is below the next one, and stands there once
pub stands_below : (count : ℕ) (past : List Change) (claims : Claims) (seat : ℕ) (c : Claimant)
    → IsRun count past claims → get_elem? claims.seats seat ≡ some c
    → (x : ℕ) → 0 < times x c.numbers → x < claims.next
stands_below count past claims seat c run at x here =
    let all = (counted count past claims run).once x in
    let part = total_at (λ c. times x c.numbers) claims.seats seat c at in
    dite (dec_lt x claims.next) (λ l. l) (λ l. let none = above_one x claims.next (omega arith) in absurd (omega arith))

pub stands_once : (count : ℕ) (past : List Change) (claims : Claims) (seat : ℕ) (c : Claimant) → IsRun count past claims
    → get_elem? claims.seats seat ≡ some c
    → (x : ℕ) → times x c.numbers ≤ 1
stands_once count past claims seat c run at x =
    let all = (counted count past claims run).once x in
    let part = total_at (λ c. times x c.numbers) claims.seats seat c at in
    let most = once_below-le x claims.next in omega arith
