-- A stepping stone: what the terms of a table whose code outside methods may run make of the progress, as `Running` says
-- it of their trees.
use Rattle.std.specs.Prelude.{◌≡◌, ◌≤◌, ◌<◌, ℕ, List, Ok, IsTrue, true}
use Rattle.aml_code.specs.Lawful.{next_position}
use Rattle.aml_code.specs.Tree.{Tree, Trees}
use Rattle.aml_parse.proofs.Forward.{is_run}
use Rattle.aml_parse.specs.Reading.{step_at}
use Rattle.aml_parse.specs.Running.{in_step, is_block, opened_at, run_term_at, run_span_at, run_table_at}
use Rattle.aml_load.specs.Declaring.{◌>>=◌, Listed}
use Rattle.aml_load.specs.Running.{counts_in, entered_at, run_names, table_front}
use Rattle.aml_load.specs.Runner.{below, front_at, span_inside, IsThere}
use Rattle.aml_load.specs.Opening.{tail_of}
use Rattle.aml_load.specs.Tables.{Fails}
use Rattle.aml_load.specs.Walking.{at_site, root_at, Holds, IsInside}
use Rattle.aml_load.specs.declared.faults.LoadFault.{LoadFault}
use Rattle.aml_parse.specs.declared.step.Behind.{Behind}
use Rattle.aml_load.specs.declared.opening.Opened.{Opened}
use Rattle.aml_load.specs.declared.run.Front.{Front as Told}
use Rattle.aml_load.specs.declared.runner.Rest.{Rest}
use Rattle.aml_load.specs.declared.sites.Site.{Site}
use Rattle.aml_load.specs.declared.walking.Progress.{Progress}

-- what is behind a term of a span
abbrev pub IsBehind : Rest → Behind → Type 0
IsBehind r x = (r.at < x.at) × (x.at ≤ r.end) × IsTrue (is_run x.position)

-- the term that stands there is this one, whatever the progress holds, and so its span goes on behind it
pub record StepTo (old : Progress) (s : Site) (r : Rest) (code : List ℕ) (x : Opened) (t : Tree) : Type 0 where
  pub there : IsThere code r t x.behind.at
  pub reads : (l : Listed) → Holds old l → in_step (run_names s.table) code
      (step_at (counts_in (front_at (at_site old.space s) l)) r.levels r.position code r.at r.end) ≡ Ok (t, x.behind.at)
  pub next : x.behind.position ≡ next_position r.position t
  pub tail : x.tail ≡ tail_of t

abbrev pub FailsStep : Progress → Site → Rest → List ℕ → LoadFault → Type 0
FailsStep old s r code e = (l : Listed) → Holds old l → Fails e (in_step (run_names s.table) code
    (step_at (counts_in (front_at (at_site old.space s) l)) r.levels r.position code r.at r.end))

-- what this term does itself, whatever the progress holds
pub record Fronts (old new : Progress) (s : Site) (o : Opened) (t : Tree) (x : Told) : Type 0 where
  pub enters : (l : Listed) → Holds old l → (m : Listed) × Holds new m
      × (entered_at (front_at (at_site old.space s) l) t ≡ Ok (front_at (at_site new.space x.inner) m))
      × (x.inner.table ≡ s.table)
  pub within : IsInside new x.inner
  pub inside : x.inside ≡ span_inside t
  pub behind : x.behind ≡ o.behind

abbrev pub FailsEntering : Progress → Site → Tree → LoadFault → Type 0
FailsEntering old s t e = (l : Listed) → Holds old l → Fails e (entered_at (front_at (at_site old.space s) l) t)

-- this term was read, and did what it does itself
abbrev pub HeadTo : Progress → Progress → Site → Rest → List ℕ → Told → Tree → Type 0
HeadTo old new s r code x t = (o : Opened) × (StepTo old s r code o t × Fronts old new s o t x)

abbrev pub FailsHead : Progress → Site → Rest → List ℕ → LoadFault → Type 0
FailsHead old s r code e = (l : Listed) → Holds old l → Fails e (in_step (run_names s.table) code
    (step_at (counts_in (front_at (at_site old.space s) l)) r.levels r.position code r.at r.end) >>= λ x.
    entered_at (front_at (at_site old.space s) l) x.0)

-- a term that stands inside a span is this one, with the terms inside it, and these declare so, whatever the progress holds
abbrev pub OpensTo : Progress → Progress → Site → ℕ → List ℕ → Tree → Tree → Type 0
OpensTo old new s levels code head t = (l : Listed) → Holds old l → (m : Listed) × Holds new m
    × (opened_at (run_names s.table) code (below levels s.table code) (is_block head) head (front_at (at_site old.space s) l)
    ≡ Ok (t, front_at (at_site old.space s) m))

abbrev pub FailsOpening : Progress → Site → ℕ → List ℕ → Tree → LoadFault → Type 0
FailsOpening old s levels code head e = (l : Listed) → Holds old l → Fails e
    (opened_at (run_names s.table) code (below levels s.table code) (is_block head) head (front_at (at_site old.space s) l))

-- the first term of a span is this one
abbrev pub RunsTo : Progress → Progress → Site → Rest → List ℕ → Behind → Tree → Type 0
RunsTo old new s r code x t = (l : Listed) → Holds old l → (m : Listed) × Holds new m × (head : Tree)
    × (run_term_at (run_names s.table) code r.levels (below r.levels s.table code) r.position r.at r.end
    (front_at (at_site old.space s) l) ≡ Ok ((head, t), (x.at, front_at (at_site old.space s) m)))
    × (x.position ≡ next_position r.position head)

abbrev pub FailsTerm : Progress → Site → Rest → List ℕ → LoadFault → Type 0
FailsTerm old s r code e = (l : Listed) → Holds old l → Fails e
    (run_term_at (run_names s.table) code r.levels (below r.levels s.table code) r.position r.at r.end
    (front_at (at_site old.space s) l))

-- the terms of a span are these
abbrev pub RunsAllTo : Progress → Progress → Site → Rest → List ℕ → Trees → Type 0
RunsAllTo old new s r code ts = (l : Listed) → Holds old l → (m : Listed) × Holds new m
    × (run_span_at (run_names s.table) code r.levels r.position r.at r.end (front_at (at_site old.space s) l)
    ≡ Ok (ts, front_at (at_site old.space s) m))

abbrev pub FailsTerms : Progress → Site → Rest → List ℕ → LoadFault → Type 0
FailsTerms old s r code e = (l : Listed) → Holds old l → Fails e
    (run_span_at (run_names s.table) code r.levels r.position r.at r.end (front_at (at_site old.space s) l))

-- a whole table
abbrev pub RunsTableTo : Progress → Progress → ℕ → List ℕ → Trees → Type 0
RunsTableTo old new t code ts = (l : Listed) → Holds old l → (m : Listed) × Holds new m
    × (run_table_at (run_names t) code (table_front true t l) ≡ Ok (ts, front_at (root_at true t) m))

abbrev pub FailsTable : Progress → ℕ → List ℕ → LoadFault → Type 0
FailsTable old t code e = (l : Listed) → Holds old l → Fails e (run_table_at (run_names t) code (table_front true t l))
