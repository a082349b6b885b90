-- What holds of a dump that is taken, by its signature. What a search for a signature or an address has found has the
-- signature.
use Rattle.acpi_tables.proofs.Common.{◌≡◌, ℕ, ◌<◌, ◌≤◌, ◌⊎◌, inl, inr, Bool, true, false, List, ◌++◌, length, drop}
use Rattle.acpi_tables.proofs.Common.{codes, cond, Some, find, ltb, nat_eq, refl, sym, ap, ◌∙◌, arith, rules, tests}
use Rattle.acpi_tables.proofs.Common.{length-append, passes_at_first, option_and_then_some, same_Some, then_some}
use Rattle.acpi_tables.proofs.Common.{slice_get_within, get_or_from_slice_get, Dump, begins_with, HoldsTable, table_of}
use Rattle.acpi_tables.proofs.Common.{HoldsRoot, HoldsAddresses, AreTaken, bytes_of, has_signature, dump_at, signed_at}
use Rattle.acpi_tables.proofs.Common.{list_of, nat_le, number_at, ◌&&◌}
use Rattle.std.specs.Prelude.{not}
use Rattle.acpi_tables.specs.Header.{revision_of}
use Rattle.std.proofs.lemmas.List.Folds.{find_at}
use Rattle.acpi_tables.specs.Dumps.{HoldsDump, most_bytes}
use Rattle.acpi_tables.proofs.Taken.{as-word, begins, is_bare}
use Rattle.acpi_tables.proofs.Places.{part-past}

-- ---- what was found

-- a dump with a signature is one of the dumps
signed_inside : (dumps : List Dump) (word : List ℕ) (index : ℕ) → 0 < length word
    → has_signature dumps word index ≡ true → index < length dumps
unfolding bytes_of
signed_inside dumps word index some is = by_place (ltb index (length dumps)) refl
  where
    by_place : (b : Bool) → ltb index (length dumps) ≡ b → index < length dumps
    by_place true e = search (rules, tests)
    by_place false e =
        let none = part-past (λ d. d.bytes.items) dumps index (search (rules, tests)) in
        let empty = sym none ∙ begins (bytes_of dumps index) word is in
        absurd (omega (arith, ap length empty, length-append word (drop (length word) (bytes_of dumps index))))

-- what then_some gave
some_then : (b : Bool) (x y : ℕ) → then_some b x ≡ Some y → (b ≡ true) × (x ≡ y)
some_then true x y e = (refl, same_Some x y e)
some_then false x y e = absurd cc

pub signed_at-signed : (dumps : List Dump) (word : List ℕ) (address index : ℕ)
    → signed_at dumps word address ≡ Some index
    → has_signature dumps word index ≡ true
signed_at-signed dumps word address index e =
    option_and_then_some (λ i. then_some (has_signature dumps word i) i) (dump_at dumps address) index e
    (λ i there some. let h = some_then (has_signature dumps word i) i index some in ap (has_signature dumps word) (sym h.1) ∙ h.0)

-- the list that a root leads to is an XSDT or an RSDT
list_by : (dumps : List Dump) (root : List ℕ) (index : ℕ) (b : Bool)
    → cond b (signed_at dumps (codes "XSDT") (number_at root 24 8)) (signed_at dumps (codes "RSDT") (number_at root 16 4)) ≡ Some index
    → (has_signature dumps (codes "XSDT") index ≡ true) ⊎ (has_signature dumps (codes "RSDT") index ≡ true)
list_by dumps root index true e = inl (signed_at-signed dumps (codes "XSDT") (number_at root 24 8) index e)
list_by dumps root index false e = inr (signed_at-signed dumps (codes "RSDT") (number_at root 16 4) index e)

-- what a search found passes
pub find-passes : (test : ℕ → Bool) (xs : List ℕ) (x : ℕ) → find test xs ≡ Some x → test x ≡ true
find-passes test xs x e =
    let there = sym (find_at test xs) ∙ e in
    rw (get_or_from_slice_get xs _ x x there) at (passes_at_first test xs x (slice_get_within xs _ x there))

-- ---- what holds of a dump that is taken, by its signature

module _ (dumps : List Dump) (any_sum : Bool) (each : AreTaken dumps any_sum) (index : ℕ) where
  held : (word : List ℕ) → 0 < length word → has_signature dumps word index ≡ true → HoldsDump any_sum (bytes_of dumps index)
  held word some is = each index (signed_inside dumps word index some is)

  -- a dump with the header, if the bytes of its signature are no other's
  tabled : (word : List ℕ) → 0 < length word → ((rest : List ℕ) → is_bare (word ++ rest) ≡ false)
      → has_signature dumps word index ≡ true
      → HoldsTable (bytes_of dumps index) × (length (bytes_of dumps index) ≤ most_bytes)
  tabled word some all is =
      let holds = held word some is in
      ((holds.table (as-word is_bare false (bytes_of dumps index) word all is)).0, holds.small)

  pub root_holds : has_signature dumps (codes "RSD PTR ") index ≡ true → HoldsRoot (bytes_of dumps index)
  root_holds is = ((held (codes "RSD PTR ") (omega arith) is).root is).0

  pub dsdt_holds : has_signature dumps (codes "DSDT") index ≡ true
      → HoldsTable (bytes_of dumps index) × (length (bytes_of dumps index) ≤ most_bytes)
  unfolding begins_with
  dsdt_holds is = tabled (codes "DSDT") (omega arith) (λ rest. refl) is

  pub ssdt_holds : has_signature dumps (codes "SSDT") index ≡ true
      → HoldsTable (bytes_of dumps index) × (length (bytes_of dumps index) ≤ most_bytes)
  unfolding begins_with
  ssdt_holds is = tabled (codes "SSDT") (omega arith) (λ rest. refl) is

  pub fadt_holds : has_signature dumps (codes "FACP") index ≡ true
      → HoldsTable (bytes_of dumps index) × (116 ≤ length (table_of (bytes_of dumps index)))
  unfolding begins_with
  fadt_holds is =
      ((tabled (codes "FACP") (omega arith) (λ rest. refl) is).0, (held (codes "FACP") (omega arith) is).fadt is)

  -- how many bytes an address has in a list
  abbrev width_of : List ℕ → ℕ
  width_of list = cond (begins_with list (codes "XSDT")) 8 4

  abbrev HoldsList : Type 0
  HoldsList = HoldsTable (bytes_of dumps index)
      × HoldsAddresses (width_of (bytes_of dumps index)) (table_of (bytes_of dumps index))

  listing : (has_signature dumps (codes "XSDT") index ≡ true) ⊎ (has_signature dumps (codes "RSDT") index ≡ true)
      → HoldsList
  unfolding begins_with
  listing (inl is) =
      ((tabled (codes "XSDT") (omega arith) (λ rest. refl) is).0, rw is ((held (codes "XSDT") (omega arith) is).xsdt is))
  listing (inr is) =
      let holds = (held (codes "RSDT") (omega arith) is).rsdt is in (
        (tabled (codes "RSDT") (omega arith) (λ rest. refl) is).0,
        rw (as-word width_of 4 (bytes_of dumps index) (codes "RSDT") (λ rest. refl) is) holds,
      )

  -- the list that a root leads to
  pub list_holds : (root : List ℕ) → list_of dumps root ≡ Some index → HoldsList
  list_holds root leads = listing (list_by dumps root index (nat_le 2 (revision_of root) && not (nat_eq (number_at root 24 8) 0)) leads)
