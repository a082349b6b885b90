-- A law of where terms stand: by themselves, each at its place, they declare what their tables load to.
use Rattle.std.specs.Prelude.{◌≡◌, ℕ, Bool, List, [], ◌∷◌, Result, Ok}
use Rattle.aml_code.specs.Tree.{Trees}
use Rattle.aml_namespace.specs.Namespace.{Entry, Givens}
use Rattle.aml_load.specs.declared.faults.LoadFault.{LoadFault}
use Rattle.aml_load.specs.Declaring.{◌>>=◌, Listed, Use, first_listed}
use Rattle.aml_load.specs.Loading.{LoadsTo}
use Rattle.aml_load.specs.Running.{Front, entered_at}
use Rattle.aml_load.specs.Standing.{Standing, set_stands}

-- the front behind what is listed, where a term stands
abbrev pub front_at : Bool → Listed → Standing → Front
front_at any_run l s =
    record { listed = l; site = record { table = s.table; scope = s.scope; any_run = any_run; sure = s.sure } }

-- what a term declares by itself after l, where it stands, without the terms inside it
unfoldable pub alone_by : Bool → Listed → Standing → Result Listed LoadFault
alone_by any_run l s = do
  f ← entered_at (front_at any_run l s) s.term
  Ok f.listed

-- what terms declare by themselves, one after the other, each where it stands
unfoldable pub each_alone : Bool → Listed → List Standing → Result Listed LoadFault
each_alone any_run l [] = Ok l
each_alone any_run l (s ∷ ss) = do
  k ← alone_by any_run l s
  each_alone any_run k ss

-- the terms of a set declare so what its tables load to
abbrev pub StandAsDeclared : Bool → Bool → Givens → List (List ℕ) → Type 0
StandAsDeclared any_run unknown_zero gs tables = (trees : List Trees) (es : List Entry) →
    LoadsTo any_run unknown_zero gs tables trees es → (us : List Use) ×
    (each_alone any_run (first_listed gs) (set_stands any_run gs trees) ≡ Ok (record { entries = es; uses = us }))
