-- The row of an opcode is the one that the index names, if that has the opcode.
use Rattle.std.specs.Prelude.{slice_get}
use Rattle.std.specs.Option.{option_map}
use Rattle.std.proofs.Common.{◌≡◌, ℕ, zero, suc, ◌+◌, ◌%◌, Bool, true, false, cond, ltb, ◌&&◌, ◌==◌, List, [], ◌∷◌, map}
use Rattle.std.proofs.Common.{get_or, find, Option, Some, None, refl, sym, ap, subst, ◌∙◌, arith}
use Rattle.std.proofs.lemmas.Bool.{eqb-true, eq-eqb}
use Rattle.aml_code.specs.declared.rows.OpRow.{OpRow}
use Rattle.aml_code.specs.Opcodes.{Row, rows, row_of, row_view}
use Rattle.aml_code.specs.declared.table.TheConstants.{INDEX}
use Rattle.aml_code.proofs.RowFacts.{and_left, and_right, row_opcode}

abbrev pub slot_of : ℕ → ℕ
slot_of o = cond (ltb o 256) o (256 + o % 256)

unfoldable pub place_of : ℕ → ℕ
place_of o = get_or INDEX (slot_of o) 0

-- ---- each row stands where the index says

are_placed : ℕ → List Row → Bool
are_placed k [] = true
are_placed k (r ∷ rs) = (place_of r.opcode == k) && are_placed (suc k) rs

all_placed : are_placed 0 rows ≡ true
unfolding are_placed place_of rows
all_placed = refl

found_step : (o : ℕ) (r x : Row) (rs : List Row) (k : ℕ) (b : Bool) → (r.opcode == o) ≡ b → place_of r.opcode ≡ k
    → (find (λ y. y.opcode == o) rs ≡ Some x → (i : ℕ) × (slice_get rs i ≡ Some x) × (place_of o ≡ suc k + i))
    → cond b (Some r) (find (λ y. y.opcode == o) rs) ≡ Some x
    → (i : ℕ) × (slice_get (r ∷ rs) i ≡ Some x) × (place_of o ≡ k + i)
found_step o r x rs k true is here later e =
    let same : r.opcode ≡ o = eqb-true _ _ is in
    (0, e, subst (λ (n : ℕ). place_of n ≡ k + 0) same (omega (arith, here)))
found_step o r x rs k false is here later e = let l = later e in (suc l.0, l.1, omega (arith, l.2))

found_place : (o : ℕ) (x : Row) (rs : List Row) (k : ℕ) → are_placed k rs ≡ true → find (λ y. y.opcode == o) rs ≡ Some x
    → (i : ℕ) × (slice_get rs i ≡ Some x) × (place_of o ≡ k + i)
unfolding are_placed
found_place o x [] k all e = absurd cc
found_place o x (r ∷ rs) k all e =
    found_step o r x rs k (r.opcode == o) refl (eqb-true _ _ (and_left (place_of r.opcode == k) (are_placed (suc k) rs) all))
    (found_place o x rs (suc k) (and_right (place_of r.opcode == k) (are_placed (suc k) rs) all)) e

-- the row of an opcode stands where the index says
row_place : (o : ℕ) (x : Row) → row_of o ≡ Some x → slice_get rows (place_of o) ≡ Some x
unfolding row_of
row_place o x e =
    let f = found_place o x rows 0 all_placed e in
    let here : place_of o ≡ f.0 = omega (arith, f.2) in
    ap (slice_get rows) here ∙ f.1

-- ---- what stands in the table is found

find_step : (o : ℕ) (r x : Row) (rs : List Row) (b : Bool) → cond b (Some r) (find (λ y. y.opcode == o) rs) ≡ None
    → find (λ y. y.opcode == o) rs ≡ None
find_step o r x rs true e = absurd cc
find_step o r x rs false e = e

find_own : (o : ℕ) (x : Row) (rs : List Row) (i : ℕ) → slice_get rs i ≡ Some x → (x.opcode == o) ≡ true
    → find (λ y. y.opcode == o) rs ≡ None → ⊥
find_own o x [] i e is none = absurd cc
find_own o x (r ∷ rs) zero e is none =
    let same : r ≡ x = cc in
    let found : (r.opcode == o) ≡ true = ap (λ (y : Row). y.opcode == o) same ∙ is in
    let some : Some r ≡ None = ap (λ (b : Bool). cond b (Some r) (find (λ y. y.opcode == o) rs)) (sym found) ∙ none in
    absurd cc
find_own o x (r ∷ rs) (suc i) e is none = find_own o x rs i e is (find_step o r x rs (r.opcode == o) none)

own_row : (o : ℕ) (x : Row) (i : ℕ) → slice_get rows i ≡ Some x → (x.opcode == o) ≡ true → row_of o ≡ None → ⊥
unfolding row_of
own_row o x i e is none = find_own o x rows i e is none

-- ---- the look-up

viewed_at : {X Y : Type 0} (f : X → Y) (xs : List X) (i : ℕ) → option_map f (slice_get xs i) ≡ slice_get (map f xs) i
viewed_at f [] i = refl
viewed_at f (x ∷ xs) zero = refl
viewed_at f (x ∷ xs) (suc i) = viewed_at f xs i

pub looked_up : (o slot place : ℕ) (table : List OpRow) (f : Option OpRow) → slot ≡ slot_of o
    → place ≡ get_or INDEX slot 0 → map row_view table ≡ rows
    → f ≡ slice_get table place → slice_get rows (place_of o) ≡ option_map row_view f
unfolding place_of
looked_up o slot place table f a b are c =
    let here : place ≡ get_or INDEX (slot_of o) 0 = b ∙ ap (λ (s : ℕ). get_or INDEX s 0) a in
    sym (ap (option_map row_view) c ∙ viewed_at row_view table place ∙ ap (λ (rs : List Row). slice_get rs place) are ∙ ap (slice_get rows) here)

-- what stands at the place of an opcode, if it has the opcode
abbrev pub kept : ℕ → Option Row → Option Row
kept o None = None
kept o (Some r) = cond (r.opcode == o) (Some r) None

pub row_kept : (o : ℕ) → kept o (slice_get rows (place_of o)) ≡ row_of o
row_kept o = by (slice_get rows (place_of o)) refl (row_of o) refl
  where
    other : (x : Row) (b : Bool) → (x.opcode == o) ≡ b → slice_get rows (place_of o) ≡ Some x → row_of o ≡ None
        → cond b (Some x) None ≡ None
    other x true is e none = absurd (own_row o x (place_of o) e is none)
    other x false is e none = refl

    by : (f : Option Row) → slice_get rows (place_of o) ≡ f → (g : Option Row) → row_of o ≡ g → kept o f ≡ g
    by f at (Some y) some =
        ap (kept o) (sym at ∙ row_place o y some) ∙ ap (λ (b : Bool). cond b (Some y) None) (eq-eqb y.opcode o (row_opcode o y some))
    by None at None none = refl
    by (Some x) at None none = other x (x.opcode == o) refl at none
