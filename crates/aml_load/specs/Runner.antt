-- A stepping stone: what the walk over a table whose code outside methods may run makes of the progress, as `Running`
-- says it.
use Rattle.std.specs.Prelude.{◌≡◌, ◌≤◌, ◌<◌, ◌+◌, ◌-◌, ℕ, zero, suc, Bool, false, cond, List, length, Option, Some}
use Rattle.std.specs.Prelude.{None, Result, Ok, Err, option_map, IsTrue}
use Rattle.std.specs.Option.{unwrap_or}
use Rattle.aml_parse.proofs.Forward.{is_run}
use Rattle.aml_code.specs.Faults.{Arities, IsEnd, most_levels}
use Rattle.aml_code.specs.Lawful.{ReadsStep}
use Rattle.aml_code.specs.Opcodes.{Row, row_of}
use Rattle.aml_code.specs.Tree.{Tree, op, Trees, no_trees, terms, body}
use Rattle.aml_code.specs.declared.rows.Position.{Position}
use Rattle.aml_parse.specs.Running.{SpanReader, has_terms, run_span_at}
use Rattle.aml_load.specs.declared.faults.LoadFault.{LoadFault}
use Rattle.aml_load.specs.declared.faults.LoadFault.TheVariants as loads
use Rattle.aml_load.specs.declared.sites.Site.{Site}
use Rattle.aml_load.specs.declared.runner.Rest.{Rest}
use Rattle.aml_load.specs.declared.walking.Progress.{Progress}
use Rattle.aml_code.specs.declared.rows.Role.{Role}
use Rattle.aml_code.specs.declared.rows.Role.TheVariants as roles
use Rattle.aml_load.specs.Declaring.{Listed}
use Rattle.aml_load.specs.Loading.{Where}
use Rattle.aml_load.specs.Running.{Front, run_names}
use Rattle.aml_load.specs.Tables.{Fails}
use Rattle.aml_load.specs.Walking.{at_site, Holds}

-- ---- blocks

abbrev pub opens : ℕ → Bool
opens o = unwrap_or (option_map (λ (r : Row). has_terms r.tail) (row_of o)) false

-- the span of the terms inside a step
abbrev pub span_inside : Tree → Option (ℕ × ℕ)
span_inside (op o w ps (body start len)) = cond (opens o) (Some (start, len)) None
span_inside _ = None

abbrev pub with_terms : Tree → Trees → Tree
with_terms (op o w ps t) ts = op o w ps (terms ts)
with_terms t ts = t

-- ---- spans

-- the span may be read
pub record HasRoom (code : List ℕ) (r : Rest) : Type 0 where
  pub short : length code ≤ 16777216
  pub run : IsTrue (is_run r.position)
  pub le : r.at ≤ r.end
  pub inside : r.end ≤ length code
  pub is_end : IsEnd code r.at r.end
  pub deep : most_levels ≤ r.levels + r.at

-- and so may that of the terms inside a step
abbrev pub RoomBy : List ℕ → ℕ → Option (ℕ × ℕ) → Type 0
RoomBy code levels None = Unit {0}
RoomBy code levels (Some x) = (0 < levels) × ((level : ℕ) → HasRoom code (record {
  level = level;
  levels = levels - 1;
  position = Position.RunTerm;
  at = x.0;
  end = x.0 + x.1;
}))

abbrev pub HasRoomInside : List ℕ → ℕ → Tree → Type 0
HasRoomInside code levels head = RoomBy code levels (span_inside head)

-- a step stands there, by some argument counts
abbrev pub IsThere : List ℕ → Rest → Tree → ℕ → Type 0
IsThere code r head behind =
    (arity : Arities) × ReadsStep arity r.levels r.position code r.at r.end head behind

-- ---- what the walk makes of the progress

-- where a term stands, and what stands in front of it
abbrev pub front_at : Where → Listed → Front
front_at w l = record { listed = l; site = w }

-- what was answered is a site that differs in its scope from one alone, or memory was refused
abbrev pub IsSiteOf : Result Site LoadFault → (ℕ → Site) → Type 0
IsSiteOf (Ok s) of = s ≡ of s.scope
IsSiteOf (Err e) of = e ≡ loads.NoMemory

-- what was made of the progress, and where the terms inside a term stand
abbrev pub Came : Progress → Site → Result Site LoadFault → Result Front LoadFault → Type 0
Came new s (Ok inner) walk = (inner.table ≡ s.table)
    × ((m : Listed) × Holds new m × (walk ≡ Ok (front_at (at_site new.space inner) m)))
Came new s (Err e) walk = Fails e walk

-- the same, whatever the progress holds
abbrev pub Comes : Progress → Progress → Site → Result Site LoadFault → (Front → Result Front LoadFault) → Type 0
Comes old new s answer walk = (l : Listed) → Holds old l → Came new s answer (walk (front_at (at_site old.space s) l))

-- roles of terms inside which no terms stand
abbrev pub IsFlat : Role → Type 0
IsFlat roles.Method = Unit {0}
IsFlat roles.Alias = Unit {0}
IsFlat roles.External = Unit {0}
IsFlat roles.Fields = Unit {0}
IsFlat _ = ⊥

-- what reads the terms inside a term that has so many levels
abbrev pub below : ℕ → (t : ℕ) → (code : List ℕ) → SpanReader (run_names t) code
below zero t code p at end f = Ok (no_trees, f)
below (suc levels) t code p at end f = run_span_at (run_names t) code levels p at end f
