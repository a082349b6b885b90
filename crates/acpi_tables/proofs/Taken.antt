-- A dump is taken by its signature (`HoldsDump`) just where it is by its kind, as the code takes it: the kind comes out of
-- a signature by computing, whatever follows it.
use Rattle.acpi_tables.proofs.Common.{◌≡◌, ℕ, ◌≤◌, Bool, true, false, List, ◌++◌, length, drop, codes, cond}
use Rattle.acpi_tables.proofs.Common.{refl, ap, subst, ◌∙◌, Decides-eqb, eqb-true, begins_with}
use Rattle.acpi_tables.proofs.Common.{arith, inl, inr, nat_eq, sym, table_of, true≢false}
use Rattle.std.proofs.lemmas.Slice.Eq.{starts_is}
use Rattle.std.specs.Prelude.{◌||◌}
use Rattle.acpi_tables.proofs.Cuts.{whole_not_refused}
use Rattle.acpi_tables.specs.declared.faults.Bad.{Bad}
use Rattle.acpi_tables.specs.Dumps.{RefusesContent, RefusesDump}
use Rattle.acpi_tables.specs.Dumps.{HoldsContent, HoldsDump, HoldsShape, content_of, kind_of, sums_hold}
use Rattle.acpi_tables.specs.declared.dump.Content.TheVariants.{Xsdt, Rsdt, Fadt, Madt, Other}
use Rattle.acpi_tables.specs.declared.dump.Kind.{Kind}
use Rattle.acpi_tables.specs.declared.dump.Kind.TheVariants.{Root, Facs, Standard}

-- ---- words that bytes begin with

pub begins : (bytes word : List ℕ) → begins_with bytes word ≡ true → bytes ≡ word ++ drop (length word) bytes
unfolding begins_with
begins bytes word e = (starts_is Decides-eqb bytes word (begins_with bytes word) refl).0 e

-- what comes out for a word, whatever follows it, comes out for bytes that begin with it
pub as-word : {X : Type 0} (f : List ℕ → X) (x : X) (bytes word : List ℕ) → ((rest : List ℕ) → f (word ++ rest) ≡ x)
    → begins_with bytes word ≡ true → f bytes ≡ x
as-word f x bytes word all is = ap f (begins bytes word is) ∙ all (drop (length word) bytes)

-- whether a dump has no standard header
abbrev pub is_bare : List ℕ → Bool
is_bare bytes = begins_with bytes (codes "RSD PTR ") || begins_with bytes (codes "FACS")

-- ---- from the kind to the signature

module _ (any_sum : Bool) (bytes : List ℕ) (shape : HoldsShape (kind_of bytes) bytes)
    (sums : any_sum ≡ false → sums_hold (kind_of bytes) bytes ≡ true) (content : HoldsContent (kind_of bytes) bytes) where
  abbrev Shaped : Kind → Type 0
  Shaped kind = HoldsShape kind bytes

  abbrev Summed : Kind → Type 0
  Summed kind = any_sum ≡ false → sums_hold kind bytes ≡ true

  abbrev Filled : Kind → Type 0
  Filled kind = HoldsContent kind bytes

  -- what holds for the kind that a word tells
  told : (Holds : Kind → Type 0) → Holds (kind_of bytes) → (word : List ℕ) (kind : Kind)
      → ((rest : List ℕ) → kind_of (word ++ rest) ≡ kind) → begins_with bytes word ≡ true → Holds kind
  told Holds here word kind all is = subst Holds (as-word kind_of kind bytes word all is) here

  headed : (b c : Bool) → begins_with bytes (codes "RSD PTR ") ≡ b → begins_with bytes (codes "FACS") ≡ c
      → (b || c) ≡ false → kind_of bytes ≡ Standard (content_of bytes)
  headed true c root facs bare = cc
  headed false true root facs bare = cc
  headed false false root facs bare = rw root (rw facs refl)

  standard : is_bare bytes ≡ false → kind_of bytes ≡ Standard (content_of bytes)
  standard bare = headed (begins_with bytes (codes "RSD PTR ")) (begins_with bytes (codes "FACS")) refl refl bare

  pub taken : length bytes ≤ 16777216 → HoldsDump any_sum bytes
  unfolding begins_with
  taken small = record {
    small = small;
    root = λ is. (
      told Shaped shape (codes "RSD PTR ") Root (λ rest. refl) is,
      told Summed sums (codes "RSD PTR ") Root (λ rest. refl) is,
    );
    facs = told Shaped shape (codes "FACS") Facs (λ rest. refl);
    table = λ bare. (
      subst Shaped (standard bare) shape,
      λ strict. eqb-true _ _ (subst Summed (standard bare) sums strict),
    );
    xsdt = told Filled content (codes "XSDT") (Standard Xsdt) (λ rest. refl);
    rsdt = told Filled content (codes "RSDT") (Standard Rsdt) (λ rest. refl);
    fadt = told Filled content (codes "FACP") (Standard Fadt) (λ rest. refl);
    madt = told Filled content (codes "APIC") (Standard Madt) (λ rest. refl);
  }

-- ---- from the signature to the kind

module _ (any_sum : Bool) (bytes : List ℕ) (holds : HoldsDump any_sum bytes) where
  filled_by : (x r f m : Bool) → begins_with bytes (codes "XSDT") ≡ x → begins_with bytes (codes "RSDT") ≡ r
      → begins_with bytes (codes "FACP") ≡ f → begins_with bytes (codes "APIC") ≡ m
      → HoldsContent (Standard (cond x Xsdt (cond r Rsdt (cond f Fadt (cond m Madt Other))))) bytes
  filled_by true r f m xsdt rsdt fadt madt = holds.xsdt xsdt
  filled_by false true f m xsdt rsdt fadt madt = holds.rsdt rsdt
  filled_by false false true m xsdt rsdt fadt madt = holds.fadt fadt
  filled_by false false false true xsdt rsdt fadt madt = holds.madt madt
  filled_by false false false false xsdt rsdt fadt madt = tt

  by : (b c : Bool) → begins_with bytes (codes "RSD PTR ") ≡ b → begins_with bytes (codes "FACS") ≡ c
      → let kind = cond b Root (cond c Facs (Standard (content_of bytes))) in HoldsShape kind bytes
      × (any_sum ≡ false → sums_hold kind bytes ≡ true) × HoldsContent kind bytes
  by true c root facs = ((holds.root root).0, (holds.root root).1, tt)
  by false true root facs = (holds.facs facs, (λ strict. refl), tt)
  by false false root facs =
      let table = holds.table (rw root facs) in (
        table.0,
        (λ strict. ap (λ n. nat_eq n 0) (table.1 strict)),
        filled_by (begins_with bytes (codes "XSDT")) (begins_with bytes (codes "RSDT"))
            (begins_with bytes (codes "FACP")) (begins_with bytes (codes "APIC")) refl refl refl refl,
      )

  pub by_kind : HoldsShape (kind_of bytes) bytes × (any_sum ≡ false → sums_hold (kind_of bytes) bytes ≡ true)
      × HoldsContent (kind_of bytes) bytes
  by_kind = by (begins_with bytes (codes "RSD PTR ")) (begins_with bytes (codes "FACS")) refl refl

-- ---- what is taken isn't refused

content_read : (kind : Kind) (bytes : List ℕ) (bad : Bad) → HoldsContent kind bytes → ¬ RefusesContent kind bytes bad
content_read (Standard Xsdt) bytes bad holds refused = refused.1 holds
content_read (Standard Rsdt) bytes bad holds refused = refused.1 holds
content_read (Standard Fadt) bytes bad holds refused = absurd (omega (arith, holds, refused.1))
content_read (Standard Madt) bytes bad holds refused = whole_not_refused (table_of bytes) holds bad refused
content_read _ bytes bad holds refused = refused

pub taken_not_refused : (any_sum : Bool) (bytes : List ℕ) (bad : Bad) → HoldsDump any_sum bytes → ¬ RefusesDump any_sum bytes bad
taken_not_refused any_sum bytes bad holds (inl large) = absurd (omega (arith, holds.small, large.1))
taken_not_refused any_sum bytes bad holds (inr (few, inl shape)) = shape.1 (by_kind any_sum bytes holds).0
taken_not_refused any_sum bytes bad holds (inr (few, inr (inl sums))) =
    true≢false (sym ((by_kind any_sum bytes holds).1 sums.2) ∙ sums.3)
taken_not_refused any_sum bytes bad holds (inr (few, inr (inr content))) =
    content_read (kind_of bytes) bytes bad (by_kind any_sum bytes holds).2 content.2
