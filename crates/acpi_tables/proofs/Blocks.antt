-- The dumps of an order are tables with their headers: each has the signature of its place, and is taken by itself.
use Rattle.acpi_tables.proofs.Common.{◌≡◌, ℕ, Bool, true, false, List, [], ◌∷◌, codes, subst, MatchBool, All, All-head}
use Rattle.acpi_tables.proofs.Common.{All-tail, filter_passes, Dump, has_signature, indexes_with}
use Rattle.acpi_tables.proofs.Common.{IsChained, IsNamed, AreTaken, AreTables}
use Rattle.std.proofs.lemmas.List.Sorted.{All-permutation}
use Rattle.acpi_tables.proofs.Signed.{signed_at-signed, dsdt_holds, ssdt_holds}

module _ (dumps : List Dump) (any_sum : Bool) (each : AreTaken dumps any_sum) where
  abbrev HasSignature : List ℕ → ℕ → Type 0
  HasSignature word index = has_signature dumps word index ≡ true

  indexes_pass : (word : List ℕ) → All (HasSignature word) (indexes_with dumps word)
  indexes_pass word = filter_passes (has_signature dumps word) _

  tables_there : (indexes : List ℕ) → All (HasSignature (codes "SSDT")) indexes → AreTables dumps indexes
  tables_there [] all = tt
  tables_there (index ∷ indexes) all =
      let table = ssdt_holds dumps any_sum each index (All-head (HasSignature (codes "SSDT")) index indexes all) in
      (table.0, table.1, tables_there indexes (All-tail (HasSignature (codes "SSDT")) index indexes all))

  blocks_by : (dsdt : ℕ) (ssdts : List ℕ) → HasSignature (codes "DSDT") dsdt → All (HasSignature (codes "SSDT")) ssdts
      → AreTables dumps (dsdt ∷ ssdts)
  blocks_by dsdt ssdts first others =
      let table = dsdt_holds dumps any_sum each dsdt first in
      (table.0, table.1, tables_there ssdts others)

  pub are_tables : (b : Bool) (dsdt : ℕ) (ssdts : List ℕ)
      → MatchBool b (IsChained dumps dsdt ssdts) (IsNamed dumps dsdt ssdts) → AreTables dumps (dsdt ∷ ssdts)
  are_tables true dsdt ssdts chain =
      blocks_by dsdt ssdts (signed_at-signed dumps (codes "DSDT") _ dsdt chain.gives)
      (subst (All (HasSignature (codes "SSDT"))) chain.all (filter_passes (has_signature dumps (codes "SSDT")) _))
  are_tables false dsdt ssdts named =
      let first : All (HasSignature (codes "DSDT")) (dsdt ∷ []) = rw named.only at (indexes_pass (codes "DSDT")) in
      blocks_by dsdt ssdts (All-head (HasSignature (codes "DSDT")) dsdt [] first)
      (All-permutation (HasSignature (codes "SSDT")) _ ssdts named.all (indexes_pass (codes "SSDT")))
