use Rattle.std.proofs.Common.{refl, subst}
use Rattle.acpidis_c.specs.Contents.{AreContents}
use Rattle.acpidis_c.proofs.state.State.list.Goals as goal

pub returns-clause-listed : goal.returns-clause-listed
returns-clause-listed c = record {
  dumps = refl;
  options = refl;
  ran = refl;
  contents = (
    c.in_ok-contents.contents,
    refl,
    subst (λ ds. AreContents c.args.bodies ds c.args.self.now.options c.in_ok-contents.contents) c.as_slice.ensures.value
        c.in_ok-contents.ensures.contents,
  );
}
