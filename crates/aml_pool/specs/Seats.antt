-- Boards and seats as their callers see them.
use Rattle.std.specs.Prelude.{◌≡◌, ℕ, ◌+◌, ◌<◌, ◌≤◌, List, [], map, length, flat_map, All, Vec, codes, Option, Some}
use Rattle.std.specs.Prelude.{None, slice_get, slice_set}
use Rattle.aml_pool.specs.declared.board.Board.{Board}
use Rattle.aml_pool.specs.declared.board.Seat.{Seat}
use Rattle.aml_pool.specs.Machine.{Claimant, claimant}
use Rattle.std.specs.Global.{Global}
use Rattle.std.specs.List.Sorted.{IsStrictlyIncreasing}
use Rattle.aml_pool.specs.declared.workers.Share.{Share}
use Rattle.aml_pool.specs.Counting.{times, IsOnce}
use Rattle.aml_pool.specs.declared.faults.PoolFault.{PoolFault}
use Rattle.aml_pool.specs.declared.faults.PoolFault.TheVariants.{NoThread, NoMemory}
use Rattle.aml_pool.specs.declared.shelf.Shelf.{Shelf}
use Rattle.aml_pool.specs.declared.shelf.ShelfFault.{ShelfFault}
use Rattle.aml_pool.specs.declared.shelf.ShelfFault.TheVariants.{Double, Stranger}

-- the board gives out the numbers below this
abbrev pub count_of : Board → ℕ
count_of board = board.count

-- the numbers that the seat drew, in the order of its draws; behind them those of the seats that were joined into it
abbrev pub numbers_of : Seat → List ℕ
numbers_of seat = seat.seat.me.0.numbers

abbrev pub weight_of : Seat → ℕ
weight_of seat = seat.seat.me.0.weight

-- a draw answered None to the seat, or to one that was joined into it
abbrev pub HasEnded : Seat → Type 0
HasEnded seat = 0 < seat.seat.me.0.nones

-- the seat may draw
abbrev pub IsDrawing : Seat → Type 0
IsDrawing seat = seat.seat.me.0.nones ≡ 0

-- what the seat is in the claim machine
abbrev pub claimant_of : Seat → Claimant
claimant_of seat = claimant seat.seat.me.0

-- the seat belongs to this very board
abbrev pub IsSeatOf : Board → Seat → Type 0
IsSeatOf board seat = (seat.seat.table_id ≡ board.table.shared.table_id) × (seat.seat.me.0.count ≡ board.count)

-- the seats belong to one board
abbrev pub AreBoardMates : Seat → Seat → Type 0
AreBoardMates seat other = (other.seat.table_id ≡ seat.seat.table_id) × (other.seat.me.0.count ≡ seat.seat.me.0.count)

-- a seat with no numbers, which may draw and has at least this weight
abbrev pub IsFresh : ℕ → Seat → Type 0
IsFresh least seat = (numbers_of seat ≡ []) × IsDrawing seat × (least ≤ weight_of seat)

-- two seats into which one was cut share its weight
abbrev pub IsCut : Seat → Seat → Seat → Type 0
IsCut whole left right = AreBoardMates whole left × (weight_of left + weight_of right ≡ weight_of whole)

-- ---- What a crew of workers hands over.

-- the fact holds of each number below n
abbrev pub EachBelow : ℕ → (ℕ → Type 0) → Type 0
EachBelow n P = (k : ℕ) → k < n → P k

-- the workers from number `first` on, with a seat of theirs, can begin to draw from the board
abbrev pub CanBegin : Board → ℕ → ℕ → Seat → Type 0
CanBegin board first workers seat = (1 ≤ workers) × (first + workers ≤ 64) × IsSeatOf board seat × IsFresh workers seat

-- the workers' lists, joined to one
abbrev pub all_of : List (Vec ℕ Global) → List ℕ
all_of drawn = flat_map (λ v. v.items) drawn

-- There is one ascending list for each worker. The results are those of the numbers drawn, each with its number
pub record AreParts {D : Type 0} (gives : ℕ → D → Type 0) (workers : ℕ) (done : List (ℕ × D))
    (drawn : List (Vec ℕ Global)) : Type 0 where
  pub lists : length drawn ≡ workers
  pub ascending : All (λ v. IsStrictlyIncreasing v.items) drawn
  pub numbers : map (λ p. p.0) done ≡ all_of drawn
  pub results : All (λ p. gives p.0 p.1) done

-- The seat that comes back is of the same board, has the weight of the one that was handed in, and has ended. Its
-- numbers are those of the workers' lists, and none of them stands twice
pub record IsShare {D : Type 0} (gives : ℕ → D → Type 0) (fresh : Seat) (workers : ℕ) (share : Share D) : Type 0 where
  pub board : AreBoardMates fresh share.seat
  pub weight : weight_of share.seat ≡ weight_of fresh
  pub ended : HasEnded share.seat
  pub numbers : numbers_of share.seat ≡ all_of share.drawn.items
  pub once : (x : ℕ) → times x (all_of share.drawn.items) ≤ 1
  pub parts : AreParts gives workers share.done.items share.drawn.items

-- That of a board's first seat, which has the whole weight
abbrev pub IsShareOf : {D : Type 0} → (ℕ → D → Type 0) → Board → ℕ → Share D → Type 0
IsShareOf gives board workers share =
    (seat : Seat) × IsSeatOf board seat × (weight_of seat ≡ 64) × IsShare gives seat workers share

-- ---- What the faults print.

abbrev pub fault_text : PoolFault → List ℕ
fault_text NoThread = codes "a thread could not be started"
fault_text NoMemory = codes "out of memory"

-- ---- A shelf as a map from the numbers below its count to values: a list of places, one for each number.

-- what stands at each number
abbrev pub places_of : {D : Type 0} → Shelf D → List (Option D)
places_of shelf = shelf.slots.items

-- the place was free, has the value now, and no other place changed
abbrev pub Files : {D : Type 0} → List (Option D) → ℕ → D → List (Option D) → Type 0
Files places number value after = (slice_get places number ≡ Some None) × (after ≡ slice_set places number (Some value))

-- why a value came back: a value stood at its number already, or the shelf has no such number
abbrev pub Refuses : {D : Type 0} → List (Option D) → ℕ → D → ShelfFault D → Type 0
Refuses {D} places number value (Double back) = (back ≡ value) × (had : D) × (slice_get places number ≡ Some (Some had))
Refuses places number value (Stranger back) = (back ≡ value) × (length places ≤ number)

-- ---- What a harvest answers.

-- One result for each number, in number order, and one ascending list for each worker. Each number below the count
-- stands in exactly one of the lists, once, and nothing else stands in any
pub record IsHarvest {D : Type 0} (gives : ℕ → D → Type 0) (workers count : ℕ) (items : List D)
    (drawn : List (Vec ℕ Global)) : Type 0 where
  pub items_len : length items ≡ count
  pub results : (n : ℕ) (d : D) → slice_get items n ≡ Some d → gives n d
  pub lists : length drawn ≡ workers
  pub ascending : All (λ v. IsStrictlyIncreasing v.items) drawn
  pub once : IsOnce (all_of drawn) count
