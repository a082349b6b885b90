-- A set of dumps means one listing: what an order and a load of it give is what the dumps load to, with the bodies that
-- were read it is what they mean, and whatever they mean is that. What a refused load tells is told of the one order.
use Rattle.acpidis.proofs.Common.{AllZip, ◌≡◌, ◌≤◌, ℕ, List, [], ◌∷◌, map, length, refl, sym, ap₂, ◌∙◌, Trees, Entry}
use Rattle.acpidis.proofs.Common.{LoadsBy, methods_in, methods_of, HoldsBy, HoldsLoad, Loaded, TableSet, table_dumps}
use Rattle.acpidis.proofs.Common.{IsListed, Dump, Order, IsOrder, Body, indexes_in, Options, codes_in, Reading}
use Rattle.acpidis.proofs.Common.{entry_of, AreReadings, Became, AreBodies, Meaning, LoadsSet, HasTables, HasTablesBy}
use Rattle.acpidis.proofs.Common.{Means, IsSetBy, codes_of}
use Rattle.std.proofs.Common.{◌⊎◌, inl, inr}
use Rattle.acpidis.specs.Told.{LoadsKept}
use Rattle.aml_code.specs.Pieces.{Told}
use Rattle.std.specs.declared.alloc.Global.{Global}
use Rattle.aml_load.proofs.Loads.{loads_one_way}
use Rattle.aml_load.specs.Views.{HoldsKept}
use Rattle.acpidis.specs.declared.refusal.Refusal.{Refusal}
use Rattle.acpidis.specs.Meaning.{none_unknown}
use Rattle.acpidis.specs.Refusals.{IsWant, StopsBy, TellsLoad, TellsBlocks, load_refusal}
use Rattle.aml_load.specs.Tables.{StopsFor, load_at}
use Rattle.aml_load.specs.declared.faults.LoadFault.{LoadFault}
use Rattle.aml_load.specs.declared.faults.LoadFault.TheVariants as loads
use Rattle.aml_namespace.specs.Namespace.{Givens}
use Rattle.std.specs.Prelude.{Bool, Err, Vec}
use Rattle.acpidis.proofs.BodyLaws.{are_entries, the_entries, are_told}
use Rattle.acpidis.specs.declared.refusal.Refusal.TheVariants as refusals

-- ---- a refused load

-- a fault that is true of a load, and the first that is met, is told
pub tells_load : (options : Options) (codes : List (List ℕ)) (order : List ℕ) (z : Bool) (gs : Givens) (fault : LoadFault)
    → z ≡ none_unknown options → gs ≡ options.externals.items
    → (fault ≡ loads.NoMemory) ⊎ StopsFor options.any_run z gs codes fault
    → (fault ≡ loads.NoMemory) ⊎ (load_at options.any_run z gs codes ≡ Err fault)
    → TellsLoad options codes order (load_refusal order fault)
tells_load options codes order z gs loads.NoMemory same given stops first = tt
tells_load options codes order z gs fault same given (inl want) first = absurd cc
tells_load options codes order z gs fault same given (inr stops) (inl want) = absurd cc
tells_load options codes order z gs fault same given (inr stops) (inr first) =
    let told : StopsBy options codes fault = record { stops = rw (← same, ← given) stops; first = rw (← same, ← given) first } in
    record { met = fault; named = refl; stops = told }

-- ---- the one order of a set, and the AML of its tables

module _ (dumps : List Dump) (options : Options) (order : Order) (codes : List (List ℕ))
    (there : IsOrder dumps options.any_sum order.dsdt order.ssdts.items)
    (only : (d : ℕ) (s : List ℕ) → IsOrder dumps options.any_sum d s → (d ≡ order.dsdt) × (s ≡ order.ssdts.items))
    (cs : codes ≡ codes_in dumps (indexes_in order)) where
  -- what a load refuses is told of it
  pub tells_blocks : (e : Refusal) → TellsLoad options codes (indexes_in order) e → TellsBlocks dumps options e
  tells_blocks (refusals.Load fault) t =
      record { dsdt = order.dsdt; ssdts = order.ssdts.items; order = there; only = only; load = rw (← cs) t }
  tells_blocks _ t = tt

  -- the AML of what the dumps mean is this
  all_codes : (k : Meaning) → LoadsSet dumps options k → codes ≡ codes_of dumps k
  all_codes k set =
      let same = only k.dsdt k.ssdts set.order in
      cs ∙ ap₂ (λ (d : ℕ) (s : List ℕ). codes_in dumps (d ∷ s)) (sym same.0) (sym same.1)

  -- where nothing loads, the dumps mean nothing
  pub none_meant : (e : Refusal) → IsWant e ⊎ ((trees : List Trees) (es : List Entry) → LoadsBy options codes trees es → ⊥)
      → IsWant e ⊎ ((k : Meaning) → LoadsSet dumps options k → ⊥)
  none_meant e (inl want) = inl want
  none_meant e (inr none) = inr (λ k set. let all = all_codes k set in none k.trees k.entries (rw all set.loads))

  module _ (x : TableSet) (own : List Trees) (named : table_dumps x.tables.items ≡ indexes_in order)
      (loads : (trees : List Trees) × (es : List Entry) × LoadsBy options codes trees es × HoldsBy x own codes trees es)
      (one : (trees : List Trees) (es : List Entry) → LoadsBy options codes trees es → HoldsBy x own codes trees es) where
    -- the dumps have the order and load to what was loaded
    abbrev loads_so : (k : Meaning) × LoadsSet dumps options k × HasTablesBy x own dumps k
    loads_so = (
      record { dsdt = order.dsdt; ssdts = order.ssdts.items; trees = loads.0; entries = loads.1; bodies = [] },
      record { order = there; loads = rw (← cs) loads.2 },
      record { named = named; holds = rw (← cs) loads.3 },
    )

    -- and to nothing else
    loads_only : (k : Meaning) → LoadsSet dumps options k → HasTablesBy x own dumps k
    loads_only k set =
        let same = only k.dsdt k.ssdts set.order in
        let all = all_codes k set in record {
          named = named ∙ ap₂ (λ (d : ℕ) (s : List ℕ). d ∷ s) (sym same.0) (sym same.1);
          holds = rw (← all) (one k.trees k.entries (rw all set.loads));
        }

    pub set_so : length x.methods.items ≤ 1048576 → IsSetBy dumps options x own
    set_so few = record { sound = loads_so; one = loads_only; few = few }

-- ---- tables that keep no terms: what they load to goes by the one load of their AML

module _ {S K : Type 0} (keeps : S → List ℕ → List Told → K → Type 0) (s : S) (options : Options) (codes : List (List ℕ))
    (x : TableSet × Vec K Global) where
  abbrev HoldsIt : List Trees → List Entry → Type 0
  HoldsIt trees es = HoldsKept keeps s x codes trees es

  pub kept_so : (trees : List Trees) × (es : List Entry) × LoadsBy options codes trees es × HoldsIt trees es
      → ((trees : List Trees) (es : List Entry) → LoadsBy options codes trees es → HoldsIt trees es)
      → LoadsKept keeps s options codes x.0 x.1.items
  kept_so (own, es, loads, has) one = (
    own,
    (
      own,
      es,
      loads,
      record { tables = has.names.tables; trees = refl; space = has.names.space; methods = has.names.methods },
    ),
    λ trees fs h.
        let names = (one trees fs h).names in record {
          tables = names.tables;
          trees = (loads_one_way options.any_run (none_unknown options) options.externals.items codes own trees es fs loads h).0;
          space = names.space;
          methods = names.methods;
        },
    has.kept,
  )

-- ---- a loaded set with the bodies that were read

module _ (dumps : List Dump) (options : Options) (x : TableSet) (own : List Trees) (rs : List Reading)
    (are : AreReadings options.unknown_zero x rs) where
  -- the dumps mean it
  pub means_so : (k : Meaning) × LoadsSet dumps options k × HasTablesBy x own dumps k
      → (k : Meaning) × Means dumps options k × HasTablesBy x own dumps k × (map entry_of rs ≡ k.bodies)
  means_so h =
      let k = h.0 in
      let here = are_entries options.unknown_zero x k.entries h.2.holds.space x.methods.items rs are in (
        record { dsdt = k.dsdt; ssdts = k.ssdts; trees = k.trees; entries = k.entries; bodies = map entry_of rs },
        record { set = record { order = h.1.order; loads = h.1.loads }; bodies = rw (← h.2.holds.tables, ← h.2.holds.methods) here },
        record { named = h.2.named; holds = h.2.holds },
        refl,
      )

  -- and whatever they mean has these bodies
  pub means_only : (k : Meaning) → Means dumps options k → HasTablesBy x own dumps k → map entry_of rs ≡ k.bodies
  means_only k means it =
      sym (the_entries options.unknown_zero x k.entries it.holds.space x.methods.items rs k.bodies are
      (rw (it.holds.tables, it.holds.methods) means.bodies))

-- and what is told of those in memory is told of that
pub told_so : (dumps : List Dump) (options : Options) (x : TableSet) (ds : List Body) (are : AreBodies options.unknown_zero x ds) (k : Meaning)
    → HasTables x dumps k → AllZip (Became options.unknown_zero k.entries (codes_of dumps k)) (methods_of k.entries) ds
told_so dumps options x ds are k it =
    rw (← it.holds.tables, ← it.holds.methods) (are_told options.unknown_zero x k.entries it.holds.space x.methods.items ds are)

-- ---- the same set with its tables in lists of their own

pub listed_so : (loaded : Loaded) (x : TableSet) (dumps : List Dump) (k : Meaning) → IsListed loaded x → HasTables x dumps k
    → HoldsLoad loaded (codes_of dumps k) k.trees k.entries
listed_so loaded x dumps k is it = record {
  tables = is.tables ∙ it.holds.tables;
  trees = is.trees ∙ it.holds.trees;
  space = rw is.space it.holds.space;
  methods = ap₂ methods_in is.space is.methods ∙ it.holds.methods;
}
