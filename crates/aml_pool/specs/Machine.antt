-- The claim machine: seats draw the numbers below a count, one draw at a time. It knows of no word, no weight and no
-- thread.
use Rattle.std.specs.Prelude.{◌≡◌, ◌≢◌, ℕ, ◌+◌, ◌<◌, ◌≤◌, List, [], ◌∷◌, ◌++◌, Bool, true, false, ◌||◌, Option, Some}
use Rattle.std.specs.Prelude.{None, IsTrue, flat_map, slice_set, ◌-◌, min, map, length, slice_index, nat_lt}
use mathlib.Core.Option.{some}
use lib.ListN.{get_elem?}
use Rattle.aml_pool.specs.Counting.{IsOnce, times, total}
use Rattle.atomic_table.specs.Table.{State, Me, Step, keeps, stepped, opening}
use Rattle.aml_pool.specs.declared.board.View.{View}

-- what a seat shows: the numbers that it drew, in the order of its draws, and whether it has ended, which is that a
-- draw answered it None
pub record Claimant : Type 0 where
  pub numbers : List ℕ
  pub ended : Bool

-- a state: the least number that no seat has drawn, and the seats
pub record Claims : Type 0 where
  pub next : ℕ
  pub seats : List Claimant

-- a seat that has drawn nothing
abbrev pub newcomer : Claimant
newcomer = record { numbers = []; ended = false }

abbrev pub claims : ℕ → List Claimant → Claims
claims next seats = record { next = next; seats = seats }

-- the opening state: one seat, no number drawn
abbrev pub opening_claims : Claims
opening_claims = claims 0 (newcomer ∷ [])

-- the seat, with one number more at the end of its list
abbrev pub with_number : Claimant → ℕ → Claimant
with_number me n = record { numbers = me.numbers ++ n ∷ []; ended = me.ended }

-- the seat, ended
abbrev pub at_its_end : Claimant → Claimant
at_its_end me = record { numbers = me.numbers; ended = true }

-- The one event, a draw of the seat at this place: while a number is left, the least goes to the end of the seat's
-- list; else the seat ends
abbrev pub Draws : ℕ → ℕ → Claims → Option ℕ → Claims → Type 0
Draws count seat before answer after =
    (me : Claimant)
    × (get_elem? before.seats seat ≡ some me)
    × (before.next < count → (answer ≡ Some before.next)
    × (after ≡ claims (before.next + 1) (slice_set before.seats seat (with_number me before.next))))
    × (count ≤ before.next → (answer ≡ None) × (after ≡ claims before.next
    (slice_set before.seats seat (at_its_end me))))

-- no event: one more seat, which has drawn nothing
abbrev pub Opens : Claims → Claims → Type 0
Opens before after = after ≡ claims before.next (before.seats ++ newcomer ∷ [])

-- the two lists in one; it has ended where either had
abbrev pub together : Claimant → Claimant → Claimant
together a b = record { numbers = a.numbers ++ b.numbers; ended = a.ended || b.ended }

-- no event: two lists become one, and the other seat is left as one that has drawn nothing
abbrev pub Joins : ℕ → ℕ → Claims → Claims → Type 0
Joins seat other before after =
    (a : Claimant)
    × (b : Claimant)
    × (seat ≢ other)
    × (get_elem? before.seats seat ≡ some a)
    × (get_elem? before.seats other ≡ some b)
    × (after ≡ claims before.next (slice_set (slice_set before.seats seat (together a b)) other newcomer))

-- a step of the machine: its event, or a change of the seats alone
pub data Change : Type 0 where
  by_draw : ℕ → Change
  by_split : Change
  by_join : ℕ → ℕ → Change

abbrev pub Changes : ℕ → Change → Claims → Claims → Type 0
Changes count (by_draw seat) before after = (answer : Option ℕ) × Draws count seat before answer after
Changes count by_split before after = Opens before after
Changes count (by_join seat other) before after = Joins seat other before after

-- these changes, the last one first, lead from the opening state to this one
abbrev pub IsRun : ℕ → List Change → Claims → Type 0
IsRun count [] now = now ≡ opening_claims
IsRun count (change ∷ past) now = (before : Claims) × IsRun count past before × Changes count change before now

-- how many of the changes are events
abbrev pub events : List Change → ℕ
events [] = 0
events (by_draw seat ∷ past) = events past + 1
events (by_split ∷ past) = events past
events (by_join seat other ∷ past) = events past

-- what every run leads to: no number past the count is drawn, each number below `next` stands in the list of one seat,
-- once, and nothing else stands in any, and a seat has ended only where all numbers are drawn
pub record IsSound (count : ℕ) (now : Claims) : Type 0 where
  pub within : now.next ≤ count
  pub once : IsOnce (flat_map (λ c. c.numbers) now.seats) now.next
  pub all_drawn : (seat : ℕ) (c : Claimant) → get_elem? now.seats seat ≡ some c → IsTrue c.ended → now.next ≡ count

-- in a state that a run leads to, a seat that shows `before` draws, is answered so, and then shows `after`
pub record IsDraw (count : ℕ) (before : Claimant) (answer : Option ℕ) (after : Claimant) : Type 0 where
  pub past : List Change
  pub from : Claims
  pub to : Claims
  pub seat : ℕ
  pub reached : IsRun count past from
  pub draws : Draws count seat from answer to
  pub shows : get_elem? from.seats seat ≡ some before
  pub shows_then : get_elem? to.seats seat ≡ some after

-- ---- The rule over the board's word and the views of its seats: they show a state of the claim machine.

abbrev pub view : ℕ → ℕ → List ℕ → ℕ → View
view count weight numbers nones = record { count = count; weight = weight; numbers = numbers; nones = nones }

-- a seat's list is its view's list, and it has ended where its view counts a None
abbrev pub claimant : View → Claimant
claimant v = record { numbers = v.numbers; ended = nat_lt 0 v.nones }

-- The machine's state that the word and the views show: `next` is the smaller of the word and the count
abbrev pub claims_shown : ℕ → State (Unit {0}) View → Claims
claims_shown count s = claims (min (slice_index s.words 0) count) (map claimant s.views)

-- a seat is answered None at most once for each part of its weight, and a view without weight, which was joined into
-- another, has nothing
abbrev pub Fits : ℕ → View → Type 0
Fits count v = (v.nones ≤ v.weight) × (v.weight ≡ 0 → v.numbers ≡ []) × (0 < v.weight → v.count ≡ count)

-- The rule: a run of the machine leads to the state that is shown. The word is the count of the run's events, each of
-- which gave a number or a None, so it never passes the count by more than the whole weight, 64
pub record IsRuled (count : ℕ) (s : State (Unit {0}) View) : Type 0 where
  pub past : List Change
  pub run : IsRun count past (claims_shown count s)
  pub one_word : length s.words ≡ 1
  pub event_each : slice_index s.words 0 ≡ events past
  pub answers : slice_index s.words 0 ≡ min (slice_index s.words 0) count + total (λ v. v.nones) s.views
  pub limit : count ≤ 1048576
  pub weights : total (λ v. v.weight) s.views ≡ 64
  pub fits : (id : ℕ) (v : View) → get_elem? s.views id ≡ some v → Fits count v

-- what a draw that found this word tells: which view follows, and that this was one draw of the machine
abbrev pub Drew : View → ℕ → View → Type 0
Drew v found after =
    (found < v.count → (after ≡ view v.count v.weight (v.numbers ++ found ∷ []) v.nones)
    × IsDraw v.count (claimant v) (Some found) (claimant after))
    × (v.count ≤ found → (after ≡ view v.count v.weight v.numbers (v.nones + 1))
    × IsDraw v.count (claimant v) None (claimant after))

abbrev pub TellsDraw : Step (Unit {0}) → Me (Unit {0}) View → ℕ → Me (Unit {0}) View → Type 0
TellsDraw it me found after = Drew me.0 found after.0 × (after.1 ≡ me.1)

-- what a look at the word tells: the seat has at most the whole weight, and no number stands twice in its list
abbrev pub TellsLook : Step (Unit {0}) → Me (Unit {0}) View → ℕ → Me (Unit {0}) View → Type 0
TellsLook it me found after = (after ≡ me) × (me.0.weight ≤ 64) × ((x : ℕ) → times x me.0.numbers ≤ 1)

-- a split: the old seat gives up the weight, and the new one has it, with no numbers
abbrev pub kept : ℕ → View → View
kept part v = view v.count (v.weight - part) v.numbers v.nones

abbrev pub given : ℕ → View → View
given part v = view v.count part [] 0

-- a join: the first seat has both lists, weights and Nones, and the other's view is spent
abbrev pub joined : View → View → View
joined v w = view v.count (v.weight + w.weight) (v.numbers ++ w.numbers) (v.nones + w.nones)

abbrev pub spent : View
spent = view 0 0 [] 0

-- The machine keeps its promise on every run, and each kind of step on the word and the views is its opening state,
-- its event, or a change of the seats alone
pub record FollowsMachine (count : ℕ) : Type 0 where
  pub sound : (past : List Change) (now : Claims) → IsRun count past now → IsSound count now
  -- make: the opening state
  pub make : claims_shown count (opening (0 ∷ []) [] (view count 64 [] 0)) ≡ opening_claims
  -- split: no event
  pub split : (s : State (Unit {0}) View) (id part : ℕ) (v : View) → get_elem? s.views id ≡ some v
      → Opens (claims_shown count s) (claims_shown count record
      { words = s.words; homes = s.homes; views = slice_set s.views id (kept part v) ++ given part v ∷ [] })
  -- draw, which makes the word one more: one draw
  pub draw : (s : State (Unit {0}) View) (id : ℕ) (v after : View) → IsRuled count s → get_elem? s.views id ≡ some v
      → 0 < v.weight → Drew v (slice_index s.words 0) after
      → (answer : Option ℕ) × Draws count id (claims_shown count s) answer
      (claims_shown count (stepped s 0 (slice_index s.words 0 + 1) id [] after keeps))
  -- join: no event, two lists become one
  pub join : (s : State (Unit {0}) View) (id other : ℕ) (v w : View) → id ≢ other → get_elem? s.views id ≡ some v
      → get_elem? s.views other ≡ some w
      → Joins id other (claims_shown count s) (claims_shown count record
      { words = s.words; homes = s.homes; views = slice_set (slice_set s.views id (joined v w)) other spent })
  -- look, with which a join ends, and close: nothing changes, and a seat with the whole weight has all that was drawn
  pub look : (s : State (Unit {0}) View) (id : ℕ) (v : View) → get_elem? s.views id ≡ some v
      → stepped s 0 (slice_index s.words 0) id [] v keeps ≡ s
  pub close : (s : State (Unit {0}) View) (id : ℕ) (v : View) → IsRuled count s → get_elem? s.views id ≡ some v
      → v.weight ≡ 64
      → IsOnce v.numbers (claims_shown count s).next
