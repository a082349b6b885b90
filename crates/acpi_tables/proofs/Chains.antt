-- What the chain gives where none of its parts is missing.
use Rattle.acpi_tables.proofs.Common.{◌≡◌, ◌∙◌, ℕ, List, Dump, Ok, Some, ap, chain_of, IsChained, ◌>>=◌}
use Rattle.std.specs.Prelude.{Option, Result}
use Rattle.std.specs.Option.{ok_or}

-- a step that finds something goes on with it
goes_on : {A B E : Type 0} (o : Option A) (e : E) (f : A → Result B E) (x : A) → o ≡ Some x → (ok_or o e >>= f) ≡ f x
goes_on o e f x is = ap (λ o. ok_or o e >>= f) is

pub chained : (dumps : List Dump) (dsdt : ℕ) (ssdts : List ℕ) → IsChained dumps dsdt ssdts
    → chain_of dumps ≡ Ok (dsdt, ssdts)
chained dumps dsdt ssdts is =
    goes_on _ _ _ is.root is.first
    ∙ goes_on _ _ _ is.list is.leads
    ∙ goes_on _ _ _ is.fadt is.names
    ∙ goes_on _ _ _ dsdt is.gives
    ∙ ap (λ xs. Ok (dsdt, xs)) is.all
