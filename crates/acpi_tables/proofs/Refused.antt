-- Dumps that have an order aren't refused.
use Rattle.acpi_tables.proofs.Common.{◌≡◌, ◌≤◌, ℕ, Bool, true, false, List, length, codes, MatchBool, Dump, ap, arith}
use Rattle.acpi_tables.proofs.Common.{inl, inr, AreTaken, IsChained, IsNamed, chain_of, indexes_with, only_dsdt}
use Rattle.std.specs.Prelude.{Err, IfOk, OnOk, Ok, Result}
use Rattle.acpi_tables.specs.Order.{Refuses, RefusesBytes, is_addressed}
use Rattle.acpi_tables.specs.declared.faults.TableFault.{TableFault}
use Rattle.acpi_tables.proofs.Chains.{chained}
use Rattle.acpi_tables.proofs.Taken.{taken_not_refused}

pub bytes_not_refused : (dumps : List Dump) (any_sum : Bool) (fault : TableFault) → AreTaken dumps any_sum
    → ¬ RefusesBytes dumps any_sum fault
bytes_not_refused dumps any_sum fault each bytes =
    taken_not_refused any_sum _ fault.bad (each bytes.index bytes.inside) bytes.refused

blocks_not_refused : (b : Bool) (dumps : List Dump) (dsdt : ℕ) (ssdts : List ℕ) (fault : TableFault)
    → MatchBool b (IsChained dumps dsdt ssdts) (IsNamed dumps dsdt ssdts)
    → ¬ MatchBool b (chain_of dumps ≡ Err fault) (only_dsdt (indexes_with dumps (codes "DSDT")) ≡ Err fault)
blocks_not_refused true dumps dsdt ssdts fault blocks none = absurd (let some = chained dumps dsdt ssdts blocks in cc)
blocks_not_refused false dumps dsdt ssdts fault blocks none = absurd (let some = ap only_dsdt blocks.only in cc)

pub order_not_refused : (dumps : List Dump) (any_sum : Bool) (dsdt : ℕ) (ssdts : List ℕ) (fault : TableFault)
    → length dumps ≤ 512
    → AreTaken dumps any_sum
    → MatchBool (is_addressed dumps) (IsChained dumps dsdt ssdts) (IsNamed dumps dsdt ssdts)
    → ¬ Refuses dumps any_sum fault
order_not_refused dumps any_sum dsdt ssdts fault few each blocks (inl many) = absurd (omega (arith, few, many.1))
order_not_refused dumps any_sum dsdt ssdts fault few each blocks (inr (_, inl bytes)) =
    bytes_not_refused dumps any_sum fault each bytes
order_not_refused dumps any_sum dsdt ssdts fault few each blocks (inr (_, inr order)) =
    blocks_not_refused (is_addressed dumps) dumps dsdt ssdts fault blocks order.1

pub ok_says : {X E : Type 0} (r : Result X E) {P : X → Type 0} {Q : Type 0} → ((x : X) → P x → Q) → IfOk r P → OnOk r Q
ok_says (Ok x) says holds = says x holds
ok_says (Err e) says holds = holds
