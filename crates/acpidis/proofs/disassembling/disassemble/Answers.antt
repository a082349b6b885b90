use Rattle.acpidis.proofs.BodyLaws.{entries_are}
use Rattle.acpidis.proofs.Common.{refl, ap, sym, ◌∙◌, subst, length, arith, AreShort}
use Rattle.aml_set.proofs.TableLaws.{are_short}
use Rattle.acpidis.proofs.MeaningLaws.{means_so, means_only, told_so, listed_so}
use Rattle.acpidis.proofs.disassembling.disassemble.Goals as goal

pub returns-clause-sound : goal.returns-clause-sound
returns-clause-sound g c =
    let it = means_so c.args.dumps.now c.args.options c.in-Ok.set.1 _ _ c.in_ok-found.ensures.bodies c.in-Ok.ensures.set.sound in (
      it.0,
      it.1,
      record {
        same_dumps = refl;
        order = sym c.in-Ok.ensures.order ∙ it.2.named;
        set = listed_so _ _ _ _ c.in_ok-loaded.ensures it.2;
        bodies = sym (entries_are _) ∙ it.3;
      },
    )

pub returns-clause-one : goal.returns-clause-one
returns-clause-one g c = λ k means.
    let it = c.in-Ok.ensures.set.one k means.set in record {
      same_dumps = refl;
      order = sym c.in-Ok.ensures.order ∙ it.named;
      set = listed_so _ _ _ _ c.in_ok-loaded.ensures it;
      bodies = sym (entries_are _) ∙ means_only c.args.dumps.now c.args.options c.in-Ok.set.1 _ _ c.in_ok-found.ensures.bodies k means it;
    }

pub returns-clause-told : goal.returns-clause-told
returns-clause-told g c = λ k means.
    told_so c.args.dumps.now c.args.options c.in-Ok.set.1 _ c.in_ok-found.ensures.bodies k (c.in-Ok.ensures.set.one k means.set)

pub returns-clause-limits : goal.returns-clause-limits
returns-clause-limits g c =
    let listed = c.in_ok-loaded.ensures in (
      subst AreShort (sym listed.tables) (are_short c.in-Ok.set.1.tables.items),
      omega (arith, ap length listed.methods, c.in-Ok.ensures.set.few),
    )
