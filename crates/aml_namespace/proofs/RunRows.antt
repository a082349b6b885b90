-- What the definitions of `Runs` give for worked sets of entries: each computes.
use Rattle.std.specs.Prelude.{◌≡◌, ℕ, Bool, true, false, codes, List, [], ◌∷◌, Option, Some, None, refl}
use Rattle.std.specs.FinSet as set
use Rattle.aml_names.specs.declared.segments.Seg.{Seg}
use Rattle.aml_names.specs.declared.names.Name.{Name as Spelled}
use Rattle.aml_names.specs.declared.names.NameForm.TheVariants.{One}
use Rattle.aml_names.specs.Paths.{PathSet}
use Rattle.aml_namespace.specs.Kinds.{Kind}
use Rattle.aml_namespace.specs.declared.kinds.Kind.TheVariants.{Name, Method, Alias, Device}
use Rattle.aml_namespace.specs.Namespace.{Entry, declares, external, given}
use Rattle.aml_namespace.specs.Known.{declaration_at, once, again, row_of}
use Rattle.aml_namespace.specs.Runs.{outlook_of, scope_in, open_in, agreed_arity, agreed_path}

abbrev ABCD : Seg
ABCD = record { 0 = codes "ABCD" }

abbrev TTTT : Seg
TTTT = record { 0 = codes "TTTT" }

abbrev UUUU : Seg
UUUU = record { 0 = codes "UUUU" }

abbrev FOO_ : Seg
FOO_ = record { 0 = codes "FOO_" }

abbrev BAR_ : Seg
BAR_ = record { 0 = codes "BAR_" }

abbrev DEV0 : Seg
DEV0 = record { 0 = codes "DEV0" }

abbrev _OSI : Seg
_OSI = record { 0 = codes "_OSI" }

abbrev name : Seg → Spelled
name s = record { root = false; ups = 0; form = One; segs = s ∷ [] }

-- in a scope a name has this count, without locals
abbrev Counts : List Entry → Bool → List Seg → Seg → Option ℕ → Type 0
Counts es unknown_zero scope s count =
    (locals : PathSet) → ((p : List Seg) → set.contains locals p ≡ false) → agreed_arity (outlook_of es) unknown_zero scope locals (name s) ≡ count

-- in the method \BAR_
abbrev InBar : List Entry → Bool → Seg → Option ℕ → Type 0
InBar es unknown_zero = Counts es unknown_zero (BAR_ ∷ [])

abbrev sure : Seg → Kind → Entry
sure s k = declares (s ∷ []) k None true

abbrev maybe : Seg → Kind → Entry
maybe s k = declares (s ∷ []) k None false

-- two branches that declare a method of 1 argument each
one_and_one : InBar (maybe FOO_ (Method 1) ∷ maybe FOO_ (Method 1) ∷ sure BAR_ (Method 0) ∷ []) false FOO_ (Some 1)
one_and_one locals none = simp none

-- of 1 and of 2: nothing, for unknown names without arguments neither, and what the user gives
one_and_two : InBar (maybe FOO_ (Method 1) ∷ maybe FOO_ (Method 2) ∷ sure BAR_ (Method 0) ∷ []) true FOO_ None
one_and_two locals none = simp none

one_and_two_given : InBar (maybe FOO_ (Method 1) ∷ maybe FOO_ (Method 2) ∷ given (FOO_ ∷ []) 1 ∷ []) false FOO_ (Some 1)
one_and_two_given locals none = simp none

-- one path in two tables
method_and_name : InBar (sure FOO_ (Method 0) ∷ sure BAR_ (Method 0) ∷ sure FOO_ Name ∷ []) false FOO_ (Some 0)
method_and_name locals none = simp none

-- and with other counts: the first is in every run
two_methods : InBar (sure FOO_ (Method 0) ∷ sure BAR_ (Method 0) ∷ sure FOO_ (Method 1) ∷ []) false FOO_ (Some 0)
two_methods locals none = simp none

-- an inner method that may be there, before an outer one
inner_and_outer : Counts (sure FOO_ (Method 1) ∷ sure DEV0 Device ∷ declares (DEV0 ∷ FOO_ ∷ []) (Method 2) None false
    ∷ declares (DEV0 ∷ BAR_ ∷ []) (Method 0) None true ∷ []) false (DEV0 ∷ BAR_ ∷ []) FOO_ None
inner_and_outer locals none = simp none

-- and one that is there
inner_alone : Counts (sure FOO_ (Method 1) ∷ sure DEV0 Device ∷ declares (DEV0 ∷ FOO_ ∷ []) (Method 2) None true
    ∷ declares (DEV0 ∷ BAR_ ∷ []) (Method 0) None true ∷ []) false (DEV0 ∷ BAR_ ∷ []) FOO_ (Some 2)
inner_alone locals none = simp none

-- a local wins
local_wins : (locals : PathSet) → set.contains locals (BAR_ ∷ FOO_ ∷ []) ≡ false
    → set.contains locals (FOO_ ∷ []) ≡ true
    → agreed_arity (outlook_of (maybe FOO_ (Method 1) ∷ maybe FOO_ (Method 2) ∷ [])) false (BAR_ ∷ []) locals (name FOO_) ≡ Some 0
local_wins locals none one = simp (none, one)

predefined_stands : InBar [] false _OSI (Some 1)
predefined_stands locals none = simp none

-- a declaration that may be there beside the predefined name
predefined_or_not : InBar (maybe _OSI (Method 2) ∷ []) false _OSI None
predefined_or_not locals none = simp none

predefined_hidden : InBar (sure _OSI (Method 2) ∷ []) false _OSI (Some 2)
predefined_hidden locals none = simp none

-- an Alias among the kinds of an Alias's target doesn't hide the others
alias_of_two : InBar (sure ABCD (Alias false (TTTT ∷ [])) ∷ maybe TTTT (Alias false (UUUU ∷ [])) ∷ maybe TTTT (Method 2) ∷ []) false ABCD None
alias_of_two locals none = simp none

alias_of_one : InBar (sure ABCD (Alias false (TTTT ∷ [])) ∷ maybe TTTT (Method 2) ∷ external (TTTT ∷ []) 3 ∷ []) false ABCD (Some 2)
alias_of_one locals none = simp none

-- an Alias of what may be an Alias among others is open, and so is one of an open one, and nobody knows its count
open_alias : InBar (sure ABCD (Alias true (TTTT ∷ [])) ∷ sure TTTT (Method 2) ∷ []) true ABCD None
open_alias locals none = simp none

open_given : InBar (sure ABCD (Alias true (TTTT ∷ [])) ∷ sure TTTT (Method 2) ∷ given (ABCD ∷ []) 2 ∷ []) false ABCD (Some 2)
open_given locals none = simp none

of_two : open_in (outlook_of (maybe TTTT (Method 0) ∷ maybe TTTT (Alias false (UUUU ∷ [])) ∷ [])) (TTTT ∷ []) ≡ true
of_two = refl

of_open : open_in (outlook_of (sure TTTT (Alias true (UUUU ∷ [])) ∷ [])) (TTTT ∷ []) ≡ true
of_open = refl

-- an Alias that is alone, two other kinds, a kind behind a sure one
of_alone : open_in (outlook_of (maybe TTTT (Alias false (UUUU ∷ [])) ∷ [])) (TTTT ∷ []) ≡ false
of_alone = refl

of_methods : open_in (outlook_of (maybe TTTT (Method 1) ∷ maybe TTTT (Method 2) ∷ [])) (TTTT ∷ []) ≡ false
of_methods = refl

of_sure : open_in (outlook_of (sure TTTT (Method 1) ∷ sure TTTT (Alias false (UUUU ∷ [])) ∷ [])) (TTTT ∷ []) ≡ false
of_sure = refl

-- a Scope of what may be a Method
scope_or_method : scope_in (outlook_of (maybe DEV0 Device ∷ sure DEV0 (Method 1) ∷ [])) (DEV0 ∷ []) ≡ false
scope_or_method = refl

scope_alone : scope_in (outlook_of (sure DEV0 Device ∷ sure DEV0 (Method 1) ∷ [])) (DEV0 ∷ []) ≡ true
scope_alone = refl

-- without any kind as before
external_alone : InBar (external (FOO_ ∷ []) 3 ∷ []) false FOO_ (Some 3)
external_alone locals none = simp none

unknown : InBar [] false FOO_ None
unknown locals none = simp none

unknown_as_zero : InBar [] true FOO_ (Some 0)
unknown_as_zero locals none = simp none

-- a Scope of a path that may be there opens it where no other can be meant
opened : agreed_path (outlook_of (maybe DEV0 Device ∷ [])) (BAR_ ∷ []) (name DEV0) ≡ Some (DEV0 ∷ [])
opened = refl

not_told : agreed_path (outlook_of (declares (BAR_ ∷ DEV0 ∷ []) Device None false ∷ sure DEV0 Device ∷ [])) (BAR_ ∷ []) (name DEV0) ≡ None
not_told = refl

-- what the declarations of a path say: kinds behind a sure one aren't kept, and all are counted
said_thrice : declaration_at (maybe FOO_ (Method 1) ∷ sure BAR_ (Method 0) ∷ sure FOO_ Name ∷ maybe FOO_ (Method 2) ∷ []) (FOO_ ∷ [])
    ≡ Some (record { kind = Method 1; others = Name ∷ []; sure = true; times = 3 })
said_thrice = refl

said_once : declaration_at (external (FOO_ ∷ []) 1 ∷ sure FOO_ (Method 1) ∷ []) (FOO_ ∷ [])
    ≡ Some (record { kind = Method 1; others = []; sure = true; times = 1 })
said_once = refl

-- and its row
row_of_maybes : row_of (FOO_ ∷ [], again (once (Method 1) false) (Method 1) false) ≡ record { path = FOO_ ∷ []; kind = Method 1; sure = false; times = 2 }
row_of_maybes = refl
