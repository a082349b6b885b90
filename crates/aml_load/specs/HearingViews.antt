-- A stepping stone: what is heard of a table's terms, as the code keeps it.
use Rattle.std.specs.Prelude.{◌≡◌, ◌<◌, ℕ, Bool, List, [], ◌∷◌, true, false, Option, Some, None, Result, Ok, Err, drop, length, map, reverse, IfSome, IfOk, OnOk}
use Rattle.std.specs.List.{AllByRecursion}
use Rattle.std.specs.Option.{option_map, option_or}
use Rattle.std.specs.Global.{Box}
use Rattle.std.specs.Coded.{×_prop, Unit-prop, le_prop}
use Rattle.aml_code.specs.Lawful.{plain_name}
use Rattle.aml_names.specs.declared.names.Name.{Name}
use Rattle.aml_namespace.specs.Known.{Known, StandsFor}
use Rattle.aml_load.specs.Declaring.{◌>>=◌, Listed, kinds_in}
use Rattle.aml_load.specs.Hearing.{Around, Head, Heard, catch, catch_all, hear, hear_all, enter, with_more, terms, run, head, inner}
use Rattle.aml_load.specs.Hearing.{arguments, elements, units, nowhere}
use Rattle.aml_load.specs.declared.groups.Group.{Group}
use Rattle.aml_load.specs.Walking.{at_site, root_at, Holds}
use Rattle.aml_set.specs.declared.tables.TableSet.{TableSet}
use Rattle.aml_set.specs.Views.{methods_of_set}
use Rattle.aml_load.specs.Loading.{Where, methods_of}
use Rattle.aml_load.specs.declared.sites.Site.{Site}
use Rattle.aml_load.specs.declared.walking.Progress.{Progress}
use Rattle.aml_load.specs.Tables.{Fails, table_at, tables_at}
use Rattle.aml_load.specs.declared.faults.LoadFault.{LoadFault}
use Rattle.aml_load.specs.declared.ears.Around.{Around as KeptAround}
use Rattle.aml_load.specs.declared.ears.Around.TheVariants as kept
use Rattle.aml_load.specs.declared.ears.Noted.{Noted}
use Rattle.aml_load.specs.declared.ears.Noted.TheVariants as noted
use Rattle.aml_code.specs.Pieces.{Told, line_pieces}
use Rattle.aml_code.specs.Tree.{nothing, Part, Trees, child, label, byte}
use Rattle.aml_load.specs.declared.ears.Head.{Head as KeptHead}
use Rattle.aml_load.specs.declared.ears.Ears.{Ears}
use Rattle.aml_load.specs.declared.hearing.Hearing.{Hearing}
use Rattle.aml_load.specs.Groups.{AreKnown, uses_of}

abbrev pub around_view : Known → KeptAround → Around
around_view k (kept.Terms s) = terms (at_site k s)
around_view k (kept.Run s) = run (at_site k s)
around_view k (kept.Head o told) = head (drop told (kinds_in o))
around_view k (kept.Inner o told) = inner (drop told (kinds_in o))
around_view k kept.Arguments = arguments
around_view k kept.Elements = elements
around_view k kept.Units = units
around_view k kept.Nowhere = nowhere

-- the last name among the parts
abbrev pub last_of : KeptHead → Option Name
last_of h = option_or (option_map (λ (b : Box Name). b.value) h.later) h.source

abbrev pub head_view : Known → KeptHead → Head
head_view k h = record {
  site = at_site k h.site;
  declaring = h.declaring;
  shape = h.shape;
  role = h.role;
  begun = h.begun;
  source = h.source;
  last = last_of h;
  byte = h.byte;
  units = map plain_name h.units.items;
}

-- what is noted of a part
abbrev pub noted_view : Noted → Part
noted_view (noted.Label n) = label n.now
noted_view (noted.Byte b) = byte b
noted_view noted.Other = child nothing

abbrev pub stack_view : Known → List KeptAround → List Around
stack_view k kept = reverse (map (around_view k) kept)

-- what is heard, where this is listed without the names that were asked meanwhile
abbrev pub heard_in : Known → Listed → Ears → Heard
heard_in k l e = record {
  listed = with_more l (uses_of k e.uses.items);
  term = option_map (head_view k) e.head;
  around = stack_view k e.around.items;
}

abbrev pub heard_by : Hearing → Listed → Heard
heard_by h l = heard_in h.progress.space l h.ears

-- the scopes have numbers
abbrev pub IsNumbered : Known → KeptAround → Type 0
IsNumbered k (kept.Terms s) = s.scope < length k.paths
IsNumbered k (kept.Run s) = s.scope < length k.paths
IsNumbered k _ = Unit {0}

abbrev pub IsHeadNumbered : Known → Option KeptHead → Type 0
IsHeadNumbered k h = IfSome h (λ x. x.site.scope < length k.paths)

pub record AreNumbered (k : Known) (e : Ears) : Type 0 where
  pub head : IsHeadNumbered k e.head
  pub around : AllByRecursion (IsNumbered k) e.around.items
  pub uses : AreKnown k e.uses.items

-- a step of what is heard alone
pub record Goes (k : Known) (old new : Ears) (step : Heard → Heard) : Type 0 where
  pub heard : (l : Listed) → heard_in k l new ≡ step (heard_in k l old)
  pub numbered : AreNumbered k old → AreNumbered k new

-- between two states these pieces were told, behind which no term did anything
abbrev pub Caught : Ears → Ears → List Told → Type 0
Caught a b ps = (k : Known) → AreNumbered k a → Goes k a b (catch_all ps)

-- one step, whatever is listed before it
pub record Hears (old new : Hearing) (step : Heard → Result Heard LoadFault) : Type 0 where
  pub heard : (l : Listed) → Holds old.progress l
      → (m : Listed) × Holds new.progress m × (step (heard_by old l) ≡ Ok (heard_by new m))
  pub numbered : AreNumbered new.progress.space new.ears

-- behind this piece no term does anything, whatever is listed before it
abbrev pub IsQuiet : Hearing → Told → Type 0
IsQuiet h p = (l : Listed) → hear true p (heard_by h l) ≡ Ok (catch p (heard_by h l))

-- the fault of a step, whatever is listed before it, unless memory was refused
abbrev pub StopsBy : Hearing → (Heard → Result Heard LoadFault) → LoadFault → Type 0
StopsBy old step e = (l : Listed) → Holds old.progress l → Fails e (step (heard_by old l))

-- ---- What a term does by its head.

-- what was made of the progress, and where the terms inside stand, if they declare
abbrev pub Entered : Progress → Result (Option Site) LoadFault → Result (Listed × Option Where) LoadFault → Type 0
Entered new (Ok s) step = (m : Listed) × Holds new m × (step ≡ Ok (m, option_map (at_site new.space) s))
Entered new (Err e) step = Fails e step

-- what stands around the terms inside
abbrev pub entered_by : Option Where → Around
entered_by None = nowhere
entered_by (Some site) = terms site

-- what the term that isn't told whole does, and where the terms inside it stand
abbrev pub finish_by : Option Head → Listed → ℕ × ℕ → Result (Listed × Option Where) LoadFault
finish_by None l span = Ok (l, None)
finish_by (Some h) l span = do
  f ← enter h l span
  Ok (f.listed, Some f.site)

-- the term is told whole then, and around it stands what stood there
pub record Finishes (old new : Hearing) (answer : Result (Option Site) LoadFault) (span : ℕ × ℕ) : Type 0 where
  pub entered : (l : Listed) → Holds old.progress l → let x = heard_by old l in
      Entered new.progress answer (finish_by x.term x.listed span)
  pub around : OnOk answer
      (stack_view new.progress.space new.ears.around.items ≡ stack_view old.progress.space old.ears.around.items)
  pub head : OnOk answer (new.ears.head ≡ None)
  pub uses : OnOk answer (new.ears.uses.items ≡ [])
  pub numbered : OnOk answer (AreNumbered new.progress.space new.ears)
  pub inside : IfOk answer (λ site. IfSome site (λ s. s.scope < length new.progress.space.paths))

-- ---- A table, whose terms are told.

-- before the first term of table t
abbrev pub begun : ℕ → Listed → Heard
begun t l = record { listed = l; term = None; around = terms (root_at false t) ∷ [] }

-- the scopes of what isn't stopped have numbers; and in one way
abbrev pub HasNumbers : Hearing → Option LoadFault → Type 0
HasNumbers h None = let k = h.progress.space in
    IsHeadNumbered k h.ears.head × (AllByRecursion (IsNumbered k) h.ears.around.items × AreKnown k h.ears.uses.items)
HasNumbers h (Some e) = Unit {0}

one_numbered : (k : Known) (a : KeptAround) → IsProp (IsNumbered k a)
one_numbered k (kept.Terms s) = le_prop
one_numbered k (kept.Run s) = le_prop
one_numbered k (kept.Head o told) = Unit-prop
one_numbered k (kept.Inner o told) = Unit-prop
one_numbered k kept.Arguments = Unit-prop
one_numbered k kept.Elements = Unit-prop
one_numbered k kept.Units = Unit-prop
one_numbered k kept.Nowhere = Unit-prop

all_numbered : (k : Known) (xs : List KeptAround) → IsProp (AllByRecursion (IsNumbered k) xs)
all_numbered k [] = Unit-prop
all_numbered k (a ∷ xs) = ×_prop (one_numbered k a) (all_numbered k xs)

all_known : (k : Known) (gs : List Group) → IsProp (AreKnown k gs)
all_known k [] = Unit-prop
all_known k (g ∷ gs) = ×_prop le_prop (all_known k gs)

head_numbered : (k : Known) (h : Option KeptHead) → IsProp (IsHeadNumbered k h)
head_numbered k None = Unit-prop
head_numbered k (Some h) = le_prop

pub HasNumbers-prop : (h : Hearing) (f : Option LoadFault) → IsProp (HasNumbers h f)
HasNumbers-prop h None = let k = h.progress.space in
    ×_prop (head_numbered k h.ears.head) (×_prop (all_numbered k h.ears.around.items) (all_known k h.ears.uses.items))
HasNumbers-prop h (Some e) = Unit-prop

-- what was heard, and is kept so: what is listed is held; or the fault at which it stopped
abbrev pub SaysBy : Hearing → Option LoadFault → Result Heard LoadFault → Type 0
SaysBy h None r = (l : Listed) × Holds h.progress l × (r ≡ Ok (heard_by h l))
SaysBy h (Some e) r = r ≡ Err e

abbrev pub Says : Hearing × Option LoadFault → Result Heard LoadFault → Type 0
Says s r = SaysBy s.0 s.1 r

-- between two states these pieces were told
abbrev pub Grew : Hearing × Option LoadFault → Hearing × Option LoadFault → List Told → Type 0
Grew a b ps = (r : Result Heard LoadFault) → Says a r → Says b (r >>= λ x. hear_all true ps x)

-- what is answered behind the last piece
abbrev pub Ended : Result Progress LoadFault → Result Heard LoadFault → Type 0
Ended (Ok p) r = (x : Heard) × Holds p x.listed × (r ≡ Ok x)
Ended (Err e) r = Fails e r

-- Of a table that was told these terms are read, and what they declare is held then, whatever was held before.
abbrev pub IsHeard : Bool → Progress → ℕ → List ℕ → Progress → Trees → Type 0
IsHeard any_run p t code made ts = (l : Listed) → Holds p l → (m : Listed) × Holds made m
    × (table_at any_run t l code ≡ Ok (ts, m))

-- a table that is told so makes this of what was made before it
abbrev pub TellsTable : Bool → Progress → ℕ → List ℕ → Progress → List Told → Type 0
TellsTable any_run p t code made ps = (ts : Trees) × ((ps ≡ line_pieces 1 ts) × IsHeard any_run p t code made ts)

-- the same, where this is so of its pieces
abbrev pub TableHeard : Bool → Progress → ℕ → List ℕ → Progress → (List Told → Type 0) → Type 0
TableHeard any_run p t code made Is = (ts : Trees) × (Is (line_pieces 1 ts) × IsHeard any_run p t code made ts)

-- it can't be read, or can't declare what it declares, for this fault
abbrev pub FailsToTell : Bool → Progress → ℕ → List ℕ → LoadFault → Type 0
FailsToTell any_run p t code e = (l : Listed) → Holds p l → Fails e (table_at any_run t l code)

-- the same of several tables, from the first on
abbrev pub TablesHeard : Bool → Progress → List (List ℕ) → Progress → (List Trees → Type 0) → Type 0
TablesHeard any_run p codes made Are = (trees : List Trees) × (Are trees × ((l : Listed) → Holds p l
    → (m : Listed) × Holds made m × (tables_at any_run 0 [] l codes ≡ Ok (trees, m))))

abbrev pub FailToTell : Bool → Progress → List (List ℕ) → LoadFault → Type 0
FailToTell any_run p codes e = (l : Listed) → Holds p l → Fails e (tables_at any_run 0 [] l codes)

-- a set that holds what is listed, where each name outside the methods takes as many arguments as were read with it
abbrev pub IsChecked : Result TableSet LoadFault → Listed → Result (Unit {0}) LoadFault → Type 0
IsChecked (Ok x) l uses = StandsFor x.space l.entries × (methods_of_set x ≡ methods_of l.entries) × (uses ≡ Ok tt)
IsChecked (Err e) l uses = Fails e uses
