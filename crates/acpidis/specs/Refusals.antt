-- What a refusal says of a set of dumps.
use Rattle.std.specs.Prelude.{◌≡◌, ℕ, Bool, List, ◌∷◌, get_or, ⊤, Err, Option, None, Some, codes}
use Rattle.aml_load.specs.Tables.{StopsFor, load_at}
use Rattle.aml_load.specs.declared.faults.LoadFault.{LoadFault}
use Rattle.aml_load.specs.declared.faults.LoadFault.TheVariants as loads
use Rattle.acpi_tables.specs.declared.dump.Dump.{Dump}
use Rattle.acpi_tables.specs.Order.{IsOrder, Refuses}
use Rattle.acpidis.specs.declared.options.Options.{Options}
use Rattle.acpidis.specs.declared.refusal.Refusal.{Refusal}
use Rattle.acpidis.specs.declared.refusal.Refusal.TheVariants as refusals
use Rattle.acpidis.specs.Bodies.{codes_in}
use Rattle.acpidis.specs.Meaning.{none_unknown}

-- memory or a thread was refused, which says nothing of the set
abbrev pub IsWant : Refusal → Type 0
IsWant refusals.NoThread = ⊤
IsWant refusals.NoMemory = ⊤
IsWant _ = ⊥

-- a fault of a table of this order, by the index of its dump
abbrev pub in_dump : List ℕ → LoadFault → LoadFault
in_dump order (loads.Code t f) = loads.Code (get_or order t 0) f
in_dump order (loads.Space t f) = loads.Space (get_or order t 0) f
in_dump order (loads.ModuleCall t) = loads.ModuleCall (get_or order t 0)
in_dump order (loads.RunCall t p) = loads.RunCall (get_or order t 0) p
in_dump order f = f

-- and the refusal for it
abbrev pub load_refusal : List ℕ → LoadFault → Refusal
load_refusal order loads.NoMemory = refusals.NoMemory
load_refusal order f = refusals.Load (in_dump order f)

-- a refusal of the set's order is true of it
abbrev pub TellsTable : List Dump → Bool → Refusal → Type 0
TellsTable dumps any_sum (refusals.Table fault) = Refuses dumps any_sum fault
TellsTable dumps any_sum _ = ⊤

-- The load of tables with these options stops for this fault, the first that is met in loading forward.
pub record StopsBy (options : Options) (codes : List (List ℕ)) (fault : LoadFault) : Type 0 where
  pub stops : StopsFor options.any_run (none_unknown options) options.externals.items codes fault
  pub first : load_at options.any_run (none_unknown options) options.externals.items codes ≡ Err fault

-- That of the tables of an order stops for this fault, which names the dump of the table that it is about.
pub record StopsInOrder (options : Options) (codes : List (List ℕ)) (order : List ℕ) (fault : LoadFault) : Type 0 where
  pub met : LoadFault
  pub named : fault ≡ in_dump order met
  pub stops : StopsBy options codes met

-- The dumps have an order, and no other, and the load of its tables stops so.
pub record StopsSet (dumps : List Dump) (options : Options) (fault : LoadFault) : Type 0 where
  pub dsdt : ℕ
  pub ssdts : List ℕ
  pub order : IsOrder dumps options.any_sum dsdt ssdts
  pub only : (d : ℕ) (s : List ℕ) → IsOrder dumps options.any_sum d s → (d ≡ dsdt) × (s ≡ ssdts)
  pub load : StopsInOrder options (codes_in dumps (dsdt ∷ ssdts)) (dsdt ∷ ssdts) fault

-- a refusal of a load is true of the tables in this order
abbrev pub TellsLoad : Options → List (List ℕ) → List ℕ → Refusal → Type 0
TellsLoad options codes order (refusals.Load fault) = StopsInOrder options codes order fault
TellsLoad options codes order _ = ⊤

-- it is true of the set
abbrev pub TellsBlocks : List Dump → Options → Refusal → Type 0
TellsBlocks dumps options (refusals.Load fault) = StopsSet dumps options fault
TellsBlocks dumps options _ = ⊤

-- ---- How a refusal displays.

-- The word of a refused growth or start. What a fault of the set displays as isn't said here.
abbrev pub want_text : Refusal → Option (List ℕ)
want_text refusals.NoThread = Some (codes "NoThread")
want_text refusals.NoMemory = Some (codes "NoMemory")
want_text _ = None
