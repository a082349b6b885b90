-- A stepping stone: a term whose code may run, as it was told without the terms inside it, and what it does by what was
-- heard of it.
use Rattle.std.specs.Prelude.{◌≡◌, [], ◌∷◌, cond, None, Ok}
use Rattle.std.specs.Option.{option_map, unwrap_or}
use Rattle.aml_code.specs.Faults.{Arities}
use Rattle.aml_code.specs.Lawful.{ReadsStep, next_position}
use Rattle.aml_code.specs.Tree.{Tree}
use Rattle.aml_parse.specs.Reading.{step_at}
use Rattle.aml_parse.specs.declared.step.Behind.{Behind}
use Rattle.aml_parse.specs.declared.step.StepAt.{StepAt}
use Rattle.aml_namespace.specs.Known.{Known}
use Rattle.aml_load.specs.Declaring.{term_uses}
use Rattle.aml_load.specs.Groups.{uses_of}
use Rattle.aml_load.specs.Hearing.{head_enters}
use Rattle.aml_load.specs.Hearing as hearing
use Rattle.aml_load.specs.HearingViews.{head_view}
use Rattle.aml_load.specs.Running.{Front, asked, entered_at}
use Rattle.aml_load.specs.Runner.{span_inside}
use Rattle.aml_load.specs.Walking.{at_site}
use Rattle.aml_load.specs.declared.opening.Opened.{Opened}
use Rattle.aml_load.specs.declared.ears.Around.TheVariants as kept
use Rattle.aml_load.specs.declared.ears.Ears.{Ears}
use Rattle.aml_load.specs.declared.sites.Site.{Site}

-- before a term at a site, of which nothing was told
abbrev pub HasBegunAt : Ears → Site → Type 0
HasBegunAt e s = (e.head ≡ None) × ((e.around.items ≡ kept.Run s ∷ []) × (e.uses.items ≡ []))

abbrev pub HasBegun : Ears → Type 0
HasBegun e = (s : Site) × HasBegunAt e s

-- this term stands there, where reading forward finds it, and the span goes on so behind it
abbrev pub IsRead : Arities → StepAt → Behind → Tree → Type 0
IsRead arity s x t = ReadsStep arity s.levels s.position s.code.now s.at s.end t x.at
    × ((step_at arity s.levels s.position s.code.now s.at s.end ≡ Ok (t, x.at)) × (x.position ≡ next_position s.position t))

-- Of this term all was heard at a site: the names that were asked, its head, and its tail.
pub record IsHeard (k : Known) (s : Site) (e : Ears) (o : Opened) (t : Tree) : Type 0 where
  pub uses : uses_of k e.uses.items ≡ term_uses (at_site k s) t
  pub enters : (f : Front) → f.site ≡ at_site k s
      → head_enters (option_map (head_view k) e.head) (asked f t) (unwrap_or o.tail (0, 0)) ≡ entered_at f t
  pub inside : cond (hearing.is_block (option_map (head_view k) e.head)) o.tail None ≡ span_inside t
