use Rattle.std.proofs.Common.{◌≡◌, Bool, cond, List, None, option_map, refl, sym, ap, subst, ◌∙◌}
use Rattle.aml_namespace.specs.Known.{Known}
use Rattle.aml_load.specs.Declaring.{Use, with_uses}
use Rattle.aml_load.specs.Groups.{uses_of}
use Rattle.aml_load.specs.Hearing.{head_enters, with_more}
use Rattle.aml_load.specs.HearingViews.{head_view}
use Rattle.aml_load.specs.Runner.{front_at}
use Rattle.aml_load.specs.Walking.{KeepsPaths, at_site}
use Rattle.aml_load.proofs.Fronts.{views}
use Rattle.aml_load.proofs.walking.Progress.enter_front.Goals as goal
use Rattle.aml_load.proofs.walking.Progress.enter_front.Goals.{then-is_block, else-is_block}

pub returns-clause-comes : goal.returns-clause-comes
returns-clause-comes c t heard =
    let old = c.args.self.now in
    let site = c.args.site.now in
    let k = old.space in
    let ears = c.args.ears in
    let tail = c.args.opened.now.tail in
    let w = at_site k site in
    let same = c.in_ok-keep_uses.ensures.space in
    let head = views c.keep_uses.new.self.space c.as_ref.result
    ∙ (λ i. option_map (head_view (same i)) (c.as_ref.ensures.value i)) in
    let tests = sym (c.is_block-is_block.ensures k) in
    record {
      enters = λ l h.
          let m = with_more l (uses_of k ears.uses.items) in
          let came = c.in_ok-inner.ensures.comes m (c.in_ok-keep_uses.ensures.holds l h) in
          let listed : with_uses w l t ≡ m = ap (λ (us : List Use). with_more l us) (sym heard.uses) in
          let here : w ≡ at_site c.keep_uses.new.self.space site = ap (λ (x : Known). at_site x site) (sym same) in (
            came.1.0,
            came.1.1,
            sym (heard.enters (front_at w l) refl)
                ∙ (λ i. head_enters (sym head i) (front_at (here i) (listed i)) (sym c.unwrap_or-span.ensures i))
                ∙ came.1.2,
            came.0,
          );
      within = c.in_ok-inner.ensures.within;
      inside = elim c.if-is_block.branch [
        | then-is_block w ↦
            w.result-is ∙ sym (ap (λ (b : Bool). cond b tail None) (tests ∙ w.if-is_block.true)) ∙ heard.inside
        | else-is_block w ↦
            w.result-is ∙ sym (ap (λ (b : Bool). cond b tail None) (tests ∙ w.if-is_block.false)) ∙ heard.inside
      ];
      behind = refl;
    }

pub returns-clause-stays : goal.returns-clause-stays
returns-clause-stays c =
    subst (λ (x : Known). KeepsPaths x c.enter_heard.new.self.space) c.in_ok-keep_uses.ensures.space c.in_ok-inner.ensures.stays
