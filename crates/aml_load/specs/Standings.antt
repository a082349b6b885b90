-- A stepping stone: what a walk over terms found so far, and what a step of it gives, as `Standing` says it.
use Rattle.std.specs.Prelude.{◌≡◌, ℕ, suc, Bool, List, [], ◌∷◌, ◌++◌, ◌<◌, length, map, Result}
use Rattle.std.specs.Prelude.{Ok, Err}
use Rattle.std.specs.Option.{unwrap_or}
use Rattle.aml_code.specs.Tree.{Tree, op, Trees, no_trees, tree_more, Tail, terms}
use Rattle.aml_code.specs.View.{node_view}
use Rattle.aml_load.specs.declared.faults.LoadFault.{LoadFault}
use Rattle.aml_load.specs.declared.standing.StandingTerm.{StandingTerm}
use Rattle.aml_load.specs.declared.walking.Progress.{Progress}
use Rattle.aml_namespace.specs.Namespace.{Givens}
use Rattle.aml_load.specs.Declaring.{◌>>=◌, Listed, first_listed}
use Rattle.aml_load.specs.Hearing.{head_at, head_enters}
use Rattle.aml_load.specs.Opening.{tail_of}
use Rattle.aml_load.specs.Runner.{front_at}
use Rattle.aml_load.specs.Loading.{Where}
use Rattle.aml_namespace.specs.Known.{Known, path_at}
use Rattle.std.specs.List.{AllByRecursion}
use Rattle.aml_load.specs.Running.{Front, behind_tables}
use Rattle.aml_load.specs.Standing.{◌>>>◌, Standing, stands}
use Rattle.aml_load.specs.Tables.{Fails}
use Rattle.aml_load.specs.Walking.{root_at, Holds}

-- a term that was found, by the paths that have numbers
abbrev pub standing_view : Known → StandingTerm → Standing
standing_view k x = record { table = x.table; scope = path_at k x.scope; sure = x.sure; term = node_view x.term.now }

-- the terms that were found, in order
abbrev pub standings_view : Known → List StandingTerm → List Standing
standings_view k xs = map (standing_view k) xs

-- their scopes have numbers
abbrev pub AreStanding : Known → List StandingTerm → Type 0
AreStanding k xs = AllByRecursion (λ x. x.scope < length k.paths) xs

-- the terms after a step are those before it and these
pub record IsListOf (old new : Progress) (before after : List StandingTerm) (list : List Standing) : Type 0 where
  pub numbered : AreStanding new.space after
  pub found : standings_view new.space after ≡ standings_view old.space before ++ list

-- What a step made of the progress is what loading forward gives, and the terms that it found are those, behind the
-- ones before; unless memory was refused.
abbrev pub Found : {X : Type 0} → Progress → Progress → List StandingTerm → List StandingTerm → Result X LoadFault
    → Result Listed LoadFault → List Standing → Type 0
Found old new before after (Ok x) walk list = (m : Listed) × Holds new m × (walk ≡ Ok m)
    × IsListOf old new before after list
Found old new before after (Err e) walk list = Fails e walk

-- whatever the progress holds before
abbrev pub Finds : {X : Type 0} → Progress → Progress → List StandingTerm → List StandingTerm → Result X LoadFault
    → (Listed → Result Listed LoadFault) → (Listed → List Standing) → Type 0
Finds old new before after answer walk list =
    (l : Listed) → Holds old l → AreStanding old.space before → Found old new before after answer (walk l) (list l)

-- what a set of trees declares, where the user gives these counts, or the fault at which that stops
abbrev pub set_declares : Bool → Givens → List Trees → Result Listed LoadFault
set_declares any_run gs trees = behind_tables any_run 0 (first_listed gs) trees

-- ---- The walk over terms by their heads. Names that are asked play no part in it.

-- what a term does by its head, with the span of its body, and where the terms inside it stand
abbrev pub enters_at : Where → Listed → Tree → Result Front LoadFault
enters_at site l t = head_enters (head_at site t) (front_at site l) (unwrap_or (tail_of t) (0, 0))

-- what terms and those inside them declare
unfoldable mutual
  pub walk : Where → Listed → Tree → Result Listed LoadFault
  walk site l (op o w ps r) = do
    f ← enters_at site l (op o w ps r)
    walk_inside f.site f.listed r
  walk site l _ = Ok l

  pub walk_inside : Where → Listed → Tail → Result Listed LoadFault
  walk_inside site l (terms ts) = walk_all site l ts
  walk_inside site l _ = Ok l

  pub walk_all : Where → Listed → Trees → Result Listed LoadFault
  walk_all site l no_trees = Ok l
  walk_all site l (tree_more x xs) = do
    k ← walk site l x
    walk_all site k xs

-- and these terms, each where it stands
unfoldable mutual
  pub met : Where → Listed → Tree → List Standing
  met site l (op o w ps r) =
      stands site (op o w ps r) ∷ (enters_at site l (op o w ps r) >>> λ f. met_inside f.site f.listed r)
  met site l t = stands site t ∷ []

  pub met_inside : Where → Listed → Tail → List Standing
  met_inside site l (terms ts) = met_all site l ts
  met_inside site l _ = []

  pub met_all : Where → Listed → Trees → List Standing
  met_all site l no_trees = []
  met_all site l (tree_more x xs) = met site l x ++ (walk site l x >>> λ k. met_all site k xs)

-- the terms inside a term
abbrev pub walk_within : Where → Listed → Tree → Result Listed LoadFault
walk_within site l (op o w ps r) = walk_inside site l r
walk_within site l _ = Ok l

abbrev pub met_within : Where → Listed → Tree → List Standing
met_within site l (op o w ps r) = met_inside site l r
met_within site l _ = []

-- those of the tables from number t on, each table from the root
unfoldable pub walk_tables : Bool → ℕ → Listed → List Trees → Result Listed LoadFault
walk_tables any_run t l [] = Ok l
walk_tables any_run t l (ts ∷ rest) = do
  k ← walk_all (root_at any_run t) l ts
  walk_tables any_run (suc t) k rest

unfoldable pub met_tables : Bool → ℕ → Listed → List Trees → List Standing
met_tables any_run t l [] = []
met_tables any_run t l (ts ∷ rest) = met_all (root_at any_run t) l ts
    ++ (walk_all (root_at any_run t) l ts >>> λ k. met_tables any_run (suc t) k rest)
