use Rattle.std.proofs.Common.{◌≡◌, Option, Some, Result, Ok, refl, sym, ap, subst, ◌∙◌}
use Rattle.aml_load.specs.Declaring.{◌>>=◌, Listed}
use Rattle.aml_load.specs.Loading.{Where}
use Rattle.aml_load.specs.Runner.{front_at}
use Rattle.aml_load.specs.Running.{Front}
use Rattle.std.specs.Option.{option_map}
use Rattle.aml_namespace.specs.Known.{Known}
use Rattle.aml_load.specs.Groups.{AreKnown, uses_of}
use Rattle.aml_load.specs.Hearing.{enter, with_more}
use Rattle.aml_load.specs.HearingViews.{head_view, finish_by}
use Rattle.aml_load.specs.Walking.{KeepsPaths, at_site}
use Rattle.aml_load.specs.declared.ears.Head.{Head}
use Rattle.aml_load.specs.declared.faults.LoadFault.{LoadFault}
use Rattle.aml_load.proofs.Stacks.{same_stack, still_stack}
use Rattle.aml_load.proofs.hearing.Hearing.finish.Goals as goal

pub returns : goal.returns
returns c =
    let old = c.args.self.now in
    let k = old.progress.space in
    let new = c.enter_head.new.self in
    let head = c.in-Some.head in
    let inner = c.in_ok-inner.inner in
    let next : Result Front LoadFault → Result (Listed × Option Where) LoadFault = λ r. r >>= λ f. Ok (f.listed, Some f.site) in
    let span = c.args.span in
    let same = c.in_ok-keep_uses.ensures.space in
    let stays = subst (λ (x : Known). KeepsPaths x new.space) same c.in_ok-inner.ensures.stays in
    record {
      finishes = record {
        entered = λ l h.
            let m = with_more l (uses_of k old.ears.uses.items) in
            let came = c.in_ok-inner.ensures.comes m (c.in_ok-keep_uses.ensures.holds l h) in
            let entered = subst (λ (x : Known). enter (head_view x head) m span ≡ Ok (front_at (at_site new.space inner) came.1.0)) same came.1.2 in (
              came.1.0,
              came.1.1,
              ap (λ (o : Option Head). finish_by (option_map (head_view k) o) m span) c.in-Some.is ∙ ap next entered,
            );
        around = same_stack k new.space stays old.ears.around.items c.requires.around;
        head = refl;
        uses = c.in_ok-keep_uses.ensures.none;
        numbered = record {
          head = tt;
          around = still_stack k new.space stays old.ears.around.items c.requires.around;
          uses = subst (AreKnown new.space) (sym c.in_ok-keep_uses.ensures.none) tt;
        };
        inside = c.in_ok-inner.ensures.within;
      };
    }
