-- The load of tables in their order (ACPI 6.5, 5.2.11, 5.3 and 20.2.5): what tables load to, where a load stops and
-- why, and loading forward, with the first fault that is met. Where the code outside methods may not run, a table is
-- read whole, and then its terms declare; where it may run, a table is read from the left. All else is the same.
use Rattle.std.specs.Prelude.{◌≡◌, ◌≤◌, ◌⊎◌, ℕ, suc, Bool, true, false, List, [], ◌∷◌, ◌++◌, length, None, Some}
use Rattle.std.specs.Prelude.{Result, Ok, Err}
use Rattle.std.specs.List.{All, AllZip}
use Rattle.std.specs.Result.{MatchResult}
use Rattle.aml_names.specs.declared.faults.CodeFault.{CodeFault}
use Rattle.aml_names.specs.declared.segments.Seg.{Seg}
use Rattle.aml_code.specs.declared.rows.Position.TheVariants as positions
use Rattle.aml_code.specs.Faults.{most_levels}
use Rattle.aml_code.specs.Lawful.{no_arguments, ReadsModule, BodiesStand}
use Rattle.aml_code.specs.Tree.{Trees, encodings}
use Rattle.aml_parse.specs.Reading.{all_at}
use Rattle.aml_parse.specs.Running.{ReadsTable, StopsTerms, run_table_at}
use Rattle.aml_namespace.specs.Namespace.{Entry, Givens}
use Rattle.aml_namespace.specs.Runs.{AreSure, times_at, StaysAsItIs}
use Rattle.aml_set.specs.Code.{AreCodes}
use Rattle.aml_set.specs.declared.loaded.Loaded.{Loaded}
use Rattle.aml_set.specs.declared.tables.TableSet.{TableSet}
use Rattle.aml_load.specs.declared.faults.LoadFault.{LoadFault}
use Rattle.aml_load.specs.declared.faults.LoadFault.TheVariants as loads
use Rattle.aml_load.specs.Declaring.{◌>>=◌, Listed, Use, first_listed, use_count, uses_at}
use Rattle.aml_load.specs.Declaring.{code_fault, Unread, most_methods}
use Rattle.aml_load.specs.Loading.{methods_of, LoadsTo}
use Rattle.aml_load.specs.Running.{Front, table_front, behind_table, run_names}
use Rattle.aml_load.specs.Spans.{InTextOrder}
use Rattle.aml_load.specs.Views.{HoldsLoad, HoldsTables}

-- ---- What tables load to, step by step: a stepping stone of the proofs, as `Loads` says it.

-- The AML of table t reads as these terms, with these lists in front of them and behind them: by themselves, and then
-- they declare; or, where the code outside methods may run, each by what stands in front of it.
abbrev pub ReadsOne : Bool → ℕ → Listed → List ℕ → Trees → Listed → Type 0
ReadsOne false t l code ts m = ReadsModule code ts × (behind_table false t l ts ≡ Ok m)
ReadsOne true t l code ts m = (k : Front) × ReadsTable (run_names t) code (table_front true t l) ts k × (k.listed ≡ m)

-- the tables from number t on read as these trees, each from the root, one after the other
abbrev pub ReadTables : Bool → ℕ → Listed → List (List ℕ) → List Trees → Listed → Type 0
ReadTables any_run t l [] [] m = l ≡ m
ReadTables any_run t l (c ∷ cs) (ts ∷ rest) m =
    (k : Listed) × ReadsOne any_run t l c ts k × ReadTables any_run (suc t) k cs rest m
ReadTables any_run t l _ _ m = ⊥

-- The tables' AML reads as these trees, which list so, where the user gives these counts; and each name outside methods
-- takes as many arguments once all entries are there as were read with it.
pub record ListsTo (any_run unknown_zero : Bool) (gs : Givens) (tables : List (List ℕ)) (trees : List Trees)
    (m : Listed) : Type 0 where
  pub read : ReadTables any_run 0 (first_listed gs) tables trees m
  pub agreed : All (λ u. use_count unknown_zero m.entries u ≡ Some u.args) m.uses

-- ---- Where the load of tables stops, and why.

-- table t can't be read, or what its terms declare stops
abbrev pub StopsOne : Bool → ℕ → Listed → List ℕ → LoadFault → Type 0
StopsOne false t l code e = Unread t code e
    ⊎ ((ts : Trees) × ReadsModule code ts × (behind_table false t l ts ≡ Err e))
StopsOne true t l code e =
    StopsTerms (run_names t) code most_levels positions.RunTerm 0 (length code) (table_front true t l) e

abbrev pub StopsTables : Bool → ℕ → Listed → List (List ℕ) → LoadFault → Type 0
StopsTables any_run t l [] e = ⊥
StopsTables any_run t l (c ∷ cs) e = StopsOne any_run t l c e
    ⊎ ((ts : Trees) × (k : Listed) × ReadsOne any_run t l c ts k × StopsTables any_run (suc t) k cs e)

-- The load stops for this reason: at a table, or behind all of them at a name that takes another number of arguments
-- than it was read with.
abbrev pub StopsFor : Bool → Bool → Givens → List (List ℕ) → LoadFault → Type 0
StopsFor any_run unknown_zero gs tables e = StopsTables any_run 0 (first_listed gs) tables e
    ⊎ ((trees : List Trees) × (m : Listed) × ReadTables any_run 0 (first_listed gs) tables trees m
    × (uses_at any_run unknown_zero m.entries m.uses ≡ Err e))

-- ---- Loading tables forward, and the first fault that is met. This says which of several faults a load answers.

-- what reading the AML of table t whole gave
abbrev pub in_code : ℕ → Result Trees CodeFault → Result Trees LoadFault
in_code t (Ok x) = Ok x
in_code t (Err e) = Err (code_fault t e)

-- a table after what is listed: its tree, and what is listed then
unfoldable pub table_at : Bool → ℕ → Listed → List ℕ → Result (Trees × Listed) LoadFault
table_at false t l code = do
  ts ← in_code t (all_at no_arguments None positions.ModuleTerm code)
  m ← behind_table false t l ts
  Ok (ts, m)
table_at true t l code = do
  x ← run_table_at (run_names t) code (table_front true t l)
  Ok (x.0, x.1.listed)

-- the tables from number t on, behind those of these trees: all trees, and what is listed after the last table
unfoldable pub tables_at : Bool → ℕ → List Trees → Listed → List (List ℕ) → Result (List Trees × Listed) LoadFault
tables_at any_run t front l [] = Ok (front, l)
tables_at any_run t front l (c ∷ cs) = do
  one ← table_at any_run t l c
  tables_at any_run (suc t) (front ++ one.0 ∷ []) one.1 cs

-- Loading tables by their AML forward, where the user gives these counts: one table after the other in load order, and
-- after the last one the names outside methods. It gives their trees and what they declare, or the first fault.
unfoldable pub load_at : Bool → Bool → Givens → List (List ℕ) → Result (List Trees × Listed) LoadFault
load_at any_run unknown_zero gs codes = do
  x ← tables_at any_run 0 [] (first_listed gs) codes
  _ ← uses_at any_run unknown_zero x.1.entries x.1.uses
  Ok x

-- what was refused by this fault: memory was refused, or loading forward meets this fault first
abbrev pub Fails : {Y : Type 0} → LoadFault → Result Y LoadFault → Type 0
Fails e walk = (e ≡ loads.NoMemory) ⊎ (walk ≡ Err e)

-- What a load answered, of which it is said what it holds, is what loading forward gives, unless memory was refused.
abbrev pub GivesBy : {X : Type 0} → (X → List (List ℕ) → List Trees → List Entry → Type 0) → Bool → Bool → Givens
    → Result X LoadFault → List (List ℕ) → Type 0
GivesBy HoldsIt any_run unknown_zero gs (Ok x) codes = (trees : List Trees) × (m : Listed)
    × HoldsIt x codes trees m.entries × (load_at any_run unknown_zero gs codes ≡ Ok (trees, m))
GivesBy HoldsIt any_run unknown_zero gs (Err e) codes = Fails e (load_at any_run unknown_zero gs codes)

abbrev pub GivesLoad : Bool → Bool → Givens → Result Loaded LoadFault → List (List ℕ) → Type 0
GivesLoad any_run unknown_zero gs answer codes = GivesBy HoldsLoad any_run unknown_zero gs answer codes

-- the same of a set of tables in one list
abbrev pub GivesSet : Bool → Bool → Givens → Result TableSet LoadFault → List (List ℕ) → Type 0
GivesSet any_run unknown_zero gs answer codes = GivesBy HoldsTables any_run unknown_zero gs answer codes

-- ---- Laws of loads.

-- tables load to one list of entries
abbrev pub LoadsOneWay : Bool → Bool → Givens → List (List ℕ) → Type 0
LoadsOneWay any z gs tables = (ts us : List Trees) (es fs : List Entry) →
    LoadsTo any z gs tables ts es → LoadsTo any z gs tables us fs → (ts ≡ us) × (es ≡ fs)

-- loading tables of bytes forward gives what they load to, or a fault for which their load stops
abbrev pub LoadsForward : Bool → Bool → Givens → List (List ℕ) → Type 0
LoadsForward any z gs tables = AreCodes tables →
    MatchResult (load_at any z gs tables) (λ x. LoadsTo any z gs tables x.0 x.1.entries)
    (λ e. StopsFor any z gs tables e)

-- it gives what they load to
abbrev pub LoadsAgain : Bool → Bool → Givens → List (List ℕ) → Type 0
LoadsAgain any z gs tables = (trees : List Trees) (es : List Entry) → LoadsTo any z gs tables trees es →
    (us : List Use) × (load_at any z gs tables ≡ Ok (trees, record { entries = es; uses = us }))

-- the trees are spelled by the tables' AML, and each method's body is the span where it stands
abbrev pub AreSpelled : Bool → Bool → Givens → List (List ℕ) → Type 0
AreSpelled any z gs tables = (trees : List Trees) (es : List Entry) → LoadsTo any z gs tables trees es →
    AllZip (λ code ts. (encodings code ts ≡ code) × BodiesStand code 0 ts) tables trees

-- the methods stand in load order and in the order of the text, each once, and there aren't too many
abbrev pub LoadsInTextOrder : Bool → Bool → Givens → List (List ℕ) → Type 0
LoadsInTextOrder any z gs tables = (trees : List Trees) (es : List Entry) → LoadsTo any z gs tables trees es →
    InTextOrder trees es × (length (methods_of es) ≤ most_methods)

-- Where the code outside methods may not run, tables mean what they mean without what runs may leave: each path is
-- declared at most once, and surely, and each count is that of the one namespace.
pub record IsStrict (es : List Entry) : Type 0 where
  pub sure : AreSure es
  pub once : (q : List Seg) → times_at es q ≤ 1
  pub counts : StaysAsItIs es

abbrev pub LoadsStrictly : Bool → Givens → List (List ℕ) → Type 0
LoadsStrictly z gs tables = (trees : List Trees) (es : List Entry) → LoadsTo false z gs tables trees es → IsStrict es
