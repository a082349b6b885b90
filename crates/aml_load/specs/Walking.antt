-- A stepping stone: what the load holds so far, and what a step of it gives, as `Loading` and `Tables` say it.
use Rattle.std.specs.Prelude.{◌≡◌, ◌⊎◌, ◌&&◌, Bool, true, false, not, List, [], ◌∷◌, ◌++◌, ◌<◌, length, Option, Some, None, Result, Ok}
use Rattle.std.specs.Prelude.{Err, is_some, ℕ}
use Rattle.aml_names.specs.declared.segments.Seg.{Seg}
use Rattle.aml_space.specs.declared.faults.SpaceFault.TheVariants as faults
use Rattle.aml_namespace.specs.declared.kinds.Kind.{Kind as KindOf}
use Rattle.aml_namespace.specs.Kinds.{Kind, kind_in, IsAmong}
use Rattle.aml_namespace.specs.Namespace.{Entry, declared_at}
use Rattle.aml_namespace.specs.Known.{Known, StandsAt, StandsFor, path_at}
use Rattle.aml_space.specs.declared.below.Below.{Below}
use Rattle.aml_space.specs.Below.{path_below}
use Rattle.std.specs.Option.{option_map}
use Rattle.aml_load.specs.declared.faults.LoadFault.{LoadFault}
use Rattle.aml_load.specs.declared.faults.LoadFault.TheVariants as loads
use Rattle.aml_load.specs.declared.sites.Site.{Site}
use Rattle.aml_load.specs.declared.walking.Progress.{Progress}
use Rattle.aml_load.specs.Declaring.{Listed}
use Rattle.aml_load.specs.Loading.{methods_of, Where, parent_of, sure_with}
use Rattle.aml_load.specs.Groups.{AreKnown, uses_of}
use Rattle.aml_load.specs.Tables.{Fails}
use Rattle.aml_set.specs.Methods.{methods_in, AreNumbered}

-- where a site is, by the paths that have numbers
abbrev pub at_site : Known → Site → Where
at_site k s = record { table = s.table; scope = path_at k s.scope; any_run = s.any_run; sure = s.sure }

-- where the first term of table t stands
abbrev pub root_at : Bool → ℕ → Where
root_at any_run t = record { table = t; scope = []; any_run = any_run; sure = true }

-- whether an entry of a path may be added there, as the definition says it of any entry
abbrev pub IsFree : Where → List Entry → List Seg → Result (Unit {0}) LoadFault → Type 0
IsFree site es p (Ok u) = (not site.any_run && is_some (declared_at es p)) ≡ false
IsFree site es p (Err e) = (e ≡ loads.NoMemory)
    ⊎ (((not site.any_run && is_some (declared_at es p)) ≡ true) × (e ≡ loads.Space site.table (faults.Duplicate p)))

-- each number stands for its path still
abbrev pub KeepsPaths : Known → Known → Type 0
KeepsPaths old new = (id : ℕ) (p : List Seg) → StandsAt old id p → StandsAt new id p

-- What declaring a path made of the progress, whatever entries it held: this entry more, and nothing else; or the fault
-- that it may not be added, or want of memory.
abbrev pub IsDeclared : Where → List Entry → List Seg → Entry → Progress → Progress → Result (Unit {0}) LoadFault → Type 0
IsDeclared site es p x old new (Ok u) = IsFree site es p (Ok u) × StandsFor new.space (es ++ x ∷ [])
    × (new.methods.items ≡ old.methods.items) × (new.uses.items ≡ old.uses.items) × KeepsPaths old.space new.space
IsDeclared site es p x old new (Err e) = IsFree site es p (Err e)

-- the path of which an Alias is declared
abbrev pub source_paths : Option (List Seg) → List (List Seg)
source_paths None = []
source_paths (Some p) = p ∷ []

-- that path, by the paths that have numbers
abbrev pub source_path : List (List Seg) → Option Below → Option (List Seg)
source_path paths source = option_map (path_below paths) source

-- whether a path is declared at a site in every run, and if it is an Alias, what it is declared of
abbrev pub sure_of : Where → List Entry → List Seg → Option (List Seg) → Bool
sure_of site es p source = sure_with site es (parent_of p ∷ source_paths source)

-- a kind by number is this one whatever the paths are, since it is no Alias's
pub record IsPlain (by_number : KindOf ℕ) (kind : Kind) : Type 0 where
  pub shown : (paths : List (List Seg)) → kind_in paths by_number ≡ kind
  pub among : (count : ℕ) → IsAmong count by_number

-- the namespace, the methods and the uses so far are those of what is listed, and the paths of methods and the scopes of
-- uses have numbers
pub record Holds (p : Progress) (l : Listed) : Type 0 where
  pub space : StandsFor p.space l.entries
  pub methods : methods_in p.space p.methods.items ≡ methods_of l.entries
  pub numbered : AreNumbered p.space p.methods.items
  pub uses : uses_of p.space p.uses.items ≡ l.uses
  pub known : AreKnown p.space p.uses.items

-- what a function answered, seen by a view, is what the walk gives, unless memory was refused
abbrev pub Gives : {X Y : Type 0} → (X → Y) → Result X LoadFault → Result Y LoadFault → Type 0
Gives view (Ok x) walk = walk ≡ Ok (view x)
Gives view (Err e) walk = Fails e walk

-- what a function made of the progress is what the walk gives, unless memory was refused
abbrev pub Walked : {X : Type 0} → Progress → Result X LoadFault → Result Listed LoadFault → Type 0
Walked new (Ok x) walk = (m : Listed) × Holds new m × (walk ≡ Ok m)
Walked new (Err e) walk = Fails e walk

-- what a function made of the progress before it, whatever that holds
abbrev pub Walks : {X : Type 0} → Progress → Progress → Result X LoadFault → (Listed → Result Listed LoadFault) → Type 0
Walks old new answer walk = (l : Listed) → Holds old l → Walked new answer (walk l)

-- what a function answers of the namespace, whatever that stands for
abbrev pub GivesIn : {X Y : Type 0} → (X → Y) → Known → Result X LoadFault → (Listed → Result Y LoadFault) → Type 0
GivesIn view space answer walk = (l : Listed) → StandsFor space l.entries → Gives view answer (walk l)

-- ---- Numbers of paths.

-- the scope of a site has a number
abbrev pub IsInside : Progress → Site → Type 0
IsInside p s = s.scope < length p.space.paths

-- each number stands for its path still
abbrev pub Stays : Progress → Progress → Type 0
Stays old new = KeepsPaths old.space new.space

-- a path that was answered begins with that of a number
abbrev pub IsBelow : Known → Below → Type 0
IsBelow k b = b.above < length k.paths

abbrev pub AreBelow : Known → Result Below LoadFault → Type 0
AreBelow k (Ok b) = IsBelow k b
AreBelow k (Err e) = Unit {0}
