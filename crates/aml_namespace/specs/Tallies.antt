-- A stepping stone of the proofs: what the counts of several kinds come to.
use Rattle.std.specs.Prelude.{◌≡◌, ℕ, Bool, true, false, cond, List, [], ◌∷◌, Option, Some, None, ◌==◌, map}
use Rattle.std.specs.Prelude.{◌+◌, ◌++◌, ◌||◌}
use Rattle.std.specs.List.{list_any, list_all}
use Rattle.std.specs.Global.{Box}
use Rattle.aml_namespace.specs.declared.kinds.Kind.{Kind as KindOf}
use Rattle.aml_namespace.specs.declared.kinds.Kind.TheVariants.{Method}
use Rattle.aml_namespace.specs.declared.tallies.Counts.{Counts}
use Rattle.aml_namespace.specs.declared.tallies.Counts.TheVariants.{Nothing, One, Several}
use Rattle.aml_namespace.specs.declared.tallies.Tally.{Tally}
use Rattle.aml_namespace.specs.declared.declarations.Again.{Again}
use Rattle.aml_namespace.specs.Known.{Said, once}
use Rattle.aml_namespace.specs.Runs.{is_alias, opens_scope}

-- what two come to
abbrev pub joined : Counts → Counts → Counts
joined Nothing c = c
joined (One n) Nothing = One n
joined (One n) (One m) = cond (m == n) (One n) Several
joined (One n) Several = Several
joined Several c = Several

-- whether there are counts, and whether they are all the same
abbrev pub counts_in : List ℕ → Counts
counts_in [] = Nothing
counts_in (n ∷ ns) = joined (One n) (counts_in ns)

-- the count that is the only one, else a second choice where there are several, and a third where there is none
abbrev pub chosen : Counts → Option ℕ → Option ℕ → Option ℕ
chosen Nothing differ unmet = unmet
chosen (One n) differ unmet = Some n
chosen Several differ unmet = differ

-- the arguments that a kind takes by itself
abbrev pub own_count : {T : Type 0} → KindOf T → ℕ
own_count (Method args) = args
own_count _ = 0

-- what the own counts of some kinds come to, whether an Alias is among them, and whether a Scope may open each
abbrev pub tally_of : {T : Type 0} → List (KindOf T) → Tally
tally_of ks = record {
  counts = counts_in (map own_count ks);
  aliased = list_any is_alias ks;
  scopes = list_all opens_scope ks;
}

-- what is kept of the declarations of a path: by its kind, and by what the further ones say
abbrev pub declared_with : KindOf ℕ → Option (Box Again) → Said (KindOf ℕ)
declared_with kind None = once kind true
declared_with kind (Some a) =
    record { kind = kind; others = a.value.others.items; sure = a.value.sure; times = a.value.times }

-- the tally that is kept is that of all kinds
abbrev pub IsTallied : KindOf ℕ → Option (Box Again) → Type 0
IsTallied kind None = Unit {0}
IsTallied kind (Some a) = a.value.tally ≡ tally_of (kind ∷ a.value.others.items)

-- one declaration more
pub record IsAgain (old new : Again) (kind : KindOf ℕ) (is_sure : Bool) : Type 0 where
  pub others : new.others.items ≡ cond old.sure old.others.items (old.others.items ++ kind ∷ [])
  pub sure : new.sure ≡ (old.sure || is_sure)
  pub times : new.times ≡ old.times + 1
  pub tally : (first : KindOf ℕ) → old.tally ≡ tally_of (first ∷ old.others.items)
      → new.tally ≡ tally_of (first ∷ new.others.items)

abbrev pub is_nothing : Counts → Bool
is_nothing Nothing = true
is_nothing (One n) = false
is_nothing Several = false

pub record IsUnchanged (old new : Again) : Type 0 where
  pub others : new.others.items ≡ old.others.items
  pub sure : new.sure ≡ old.sure
  pub times : new.times ≡ old.times
  pub tally : new.tally ≡ old.tally
