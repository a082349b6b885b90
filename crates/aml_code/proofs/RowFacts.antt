-- What holds of each row of the table of opcodes, by tests that compute over the whole table; and opcodes as they are
-- read.
use Rattle.std.proofs.Common.{◌≡◌, ℕ, ◌/◌, ◌%◌, ◌<◌, Bool, true, false, cond, ltb, not, ◌&&◌, ◌==◌, List, [], ◌∷◌, ◌++◌}
use Rattle.std.proofs.Common.{length, find, Option, Some, None, refl, sym, ap, subst, ◌∙◌, arith, inl, inr}
use Rattle.std.specs.Prelude.{nat_le}
use Rattle.std.specs.List.{list_all}
use Rattle.std.proofs.lemmas.Bool.{eqb-true, eqb-false, ltb-true, lt-ltb, le-ltb}
use Rattle.std.proofs.lemmas.Bool.Decides.{nat_tests}
use Rattle.aml_names.specs.Names.{is_name_lead}
use Rattle.aml_code.specs.Opcodes.{Row, rows, row_of, has_length, takes}
use Rattle.aml_code.specs.declared.rows.PartKind.{PartKind}
use Rattle.aml_code.specs.declared.rows.PartKind.TheVariants as kinds
use Rattle.aml_code.specs.declared.rows.Place.{Place}
use Rattle.aml_code.specs.declared.rows.Place.TheVariants as places
use Rattle.aml_code.specs.declared.rows.TailKind.{TailKind}
use Rattle.aml_code.specs.declared.rows.TailKind.TheVariants as tails
use Rattle.aml_code.specs.Tree.{opcode_bytes}
use Rattle.aml_code.specs.declared.rows.Position.{Position}
use Rattle.aml_code.specs.declared.rows.Position.TheVariants as positions
use Rattle.aml_code.specs.Lawful.{is_guard}
use Rattle.aml_code.specs.Faults.{IsOpcode}

pub and_left : (a b : Bool) → (a && b) ≡ true → a ≡ true
and_left true b h = refl
and_left false b h = h

pub and_right : (a b : Bool) → (a && b) ≡ true → b ≡ true
and_right true b h = h
and_right false b h = cc

-- what a search finds passes the test of the search, and each test that all pass
found : {X : Type 0} (p t : X → Bool) (xs : List X) (x : X) → list_all t xs ≡ true → find p xs ≡ Some x
    → (p x ≡ true) × (t x ≡ true)
found p t [] x all e = absurd cc
found p t (y ∷ ys) x all e = by (p y) refl (λ h. found p t ys x (and_right (t y) (list_all t ys) all) h) e
  where
    by : (b : Bool) → p y ≡ b → (find p ys ≡ Some x → (p x ≡ true) × (t x ≡ true))
        → cond b (Some y) (find p ys) ≡ Some x → (p x ≡ true) × (t x ≡ true)
    by true is later h = let q : y ≡ x = cc in (ap p (sym q) ∙ is, ap t (sym q) ∙ and_left (t y) (list_all t ys) all)
    by false is later h = later h

pub row_opcode : (o : ℕ) (r : Row) → row_of o ≡ Some r → r.opcode ≡ o
unfolding row_of rows
row_opcode o r e = eqb-true _ _ (found (λ r. r.opcode == o) (λ r. true) rows r refl e).0

where_true : (b c : Bool) → b ≡ true → cond b c true ≡ true → c ≡ true
where_true true c h e = e
where_true false c h e = absurd cc

-- Of each row that passes the first test the second test says this, if it does so over the whole table: there `refl`
-- shows it.
pub rows_say : (when is : Row → Bool) → list_all (λ r. cond (when r) (is r) true) rows ≡ true → (o : ℕ) (r : Row)
    → row_of o ≡ Some r → when r ≡ true
    → is r ≡ true
unfolding row_of
rows_say when is all o r e h = where_true (when r) (is r) h (found (λ r. r.opcode == o) (λ r. cond (when r) (is r) true) rows r all e).1

-- ---- opcodes are opcodes, and begin no name

is_opcode : ℕ → Bool
is_opcode o = cond (ltb o 256) (not (o == 0x5B)) (nat_le 0x5B00 o && ltb o 0x5C00)

pub not_true : (b : Bool) → not b ≡ true → b ≡ false
not_true true e = absurd cc
not_true false e = refl

opcode_by : (o : ℕ) (b : Bool) → ltb o 256 ≡ b → cond b (not (o == 0x5B)) (nat_le 0x5B00 o && ltb o 0x5C00) ≡ true
    → IsOpcode o
opcode_by o true small e = inl (ltb-true _ _ small, eqb-false _ _ (not_true _ e))
opcode_by o false small e =
    let low : nat_le 0x5B00 o ≡ true = and_left (nat_le 0x5B00 o) (ltb o 0x5C00) e in
    inr (grind (arith, nat_tests, low), ltb-true _ _ (and_right (nat_le 0x5B00 o) (ltb o 0x5C00) e))

pub row_is_opcode : (o : ℕ) (r : Row) → row_of o ≡ Some r → IsOpcode o
unfolding rows is_opcode
row_is_opcode o r e =
    subst IsOpcode (row_opcode o r e) (opcode_by r.opcode (ltb r.opcode 256) refl (rows_say (λ r. true) (λ r. is_opcode r.opcode) refl o r e refl))

-- the lead byte of an opcode
abbrev pub lead_of : ℕ → ℕ
lead_of o = cond (ltb o 256) o (o / 256)

pub row_apart : (o : ℕ) (r : Row) → row_of o ≡ Some r → is_name_lead (lead_of o) ≡ false
unfolding rows
row_apart o r e = subst (λ (n : ℕ). is_name_lead (lead_of n) ≡ false) (row_opcode o r e)
    (not_true _ (rows_say (λ r. true) (λ r. not (is_name_lead (lead_of r.opcode))) refl o r e refl))

-- no target's opcode is 00
pub target_opcode : (o : ℕ) (r : Row) → row_of o ≡ Some r → takes positions.Target r.place ≡ true
    → (lead_of o == 0x00) ≡ false
unfolding rows
target_opcode o r e h = subst (λ (n : ℕ). (lead_of n == 0x00) ≡ false) (row_opcode o r e)
    (not_true _ (rows_say (λ r. takes positions.Target r.place) (λ r. not (lead_of r.opcode == 0x00)) refl o r e h))

abbrev pub is_body : Option TailKind → Bool
is_body (Some tails.Body) = true
is_body _ = false

-- ---- an If has one part, a term, and a package length; the row of 00 has neither

abbrev pub is_if_place : Place → Bool
is_if_place places.If = true
is_if_place _ = false

one_term : List PartKind → Bool
one_term (kinds.Term ∷ []) = true
one_term _ = false

one_term_is : (ks : List PartKind) → one_term ks ≡ true → ks ≡ kinds.Term ∷ []
unfolding one_term
one_term_is (kinds.Term ∷ []) h = refl
one_term_is _ h = absurd cc

if_passes : (o : ℕ) (r : Row) → row_of o ≡ Some r → is_if_place r.place ≡ true
    → (one_term r.parts && has_length r.tail) ≡ true
unfolding rows one_term
if_passes o r e h = rows_say (λ r. is_if_place r.place) (λ r. one_term r.parts && has_length r.tail) refl o r e h

pub if_parts : (o : ℕ) (r : Row) → row_of o ≡ Some r → is_if_place r.place ≡ true → r.parts ≡ kinds.Term ∷ []
if_parts o r e h = one_term_is r.parts (and_left (one_term r.parts) (has_length r.tail) (if_passes o r e h))

pub if_has_length : (o : ℕ) (r : Row) → row_of o ≡ Some r → is_if_place r.place ≡ true → has_length r.tail ≡ true
if_has_length o r e h = and_right (one_term r.parts) (has_length r.tail) (if_passes o r e h)

pub guard_place : (p : Position) (place : Place) → is_guard p place ≡ true → is_if_place place ≡ true
guard_place positions.ModuleTerm places.If h = refl
guard_place _ place h = absurd cc

abbrev IsBare : Option Row → Type 0
IsBare None = ⊥
IsBare (Some r) = (r.parts ≡ []) × (has_length r.tail ≡ false)

pub zero_bare : (r : Row) → row_of 0x00 ≡ Some r → (r.parts ≡ []) × (has_length r.tail ≡ false)
unfolding row_of rows
zero_bare r e = subst IsBare e (refl, refl)

-- ---- the bytes of an opcode

pub opcode_lead : (o : ℕ) (rest : List ℕ) → (behind : List ℕ) × (opcode_bytes o ++ rest ≡ lead_of o ∷ behind)
opcode_lead o rest = by_size (ltb o 256)
  where
    by_size : (b : Bool)
        → (behind : List ℕ) × (cond b (o ∷ []) ((o / 256) ∷ (o % 256) ∷ []) ++ rest ≡ cond b o (o / 256) ∷ behind)
    by_size true = (rest, refl)
    by_size false = (o % 256 ∷ rest, refl)

pub opcode_some : (o : ℕ) → 0 < length (opcode_bytes o)
opcode_some o = by_size (ltb o 256)
  where
    by_size : (b : Bool) → 0 < length (cond b (o ∷ []) ((o / 256) ∷ (o % 256) ∷ []))
    by_size true = omega arith
    by_size false = omega arith

-- an opcode whose lead byte is below 5B is that byte
opcode_lead_is : (o b : ℕ) → IsOpcode o → lead_of o ≡ b → b < 0x5B → o ≡ b
opcode_lead_is o b (inl h) e less = let small : ltb o 256 ≡ true = lt-ltb _ _ h.0 in sym (ap (λ (c : Bool). cond c o (o / 256)) small) ∙ e
opcode_lead_is o b (inr h) e less =
    let big : ltb o 256 ≡ false = le-ltb _ _ (omega (arith, h.0)) in
    let high : o / 256 ≡ 0x5B = omega (arith, h.0, h.1) in
    let is : b ≡ 0x5B = sym e ∙ ap (λ (c : Bool). cond c o (o / 256)) big ∙ high in
    absurd (omega (arith, is, less))

pub row_lead_is : (o b : ℕ) (r : Row) → row_of o ≡ Some r → lead_of o ≡ b → b < 0x5B → o ≡ b
row_lead_is o b r listed e less = opcode_lead_is o b (row_is_opcode o r listed) e less
