use Rattle.std.proofs.lemmas.Result.{IfOk-weaker}
use Rattle.acpidis_c.proofs.Listing.{contents_so}
use Rattle.acpidis_c.proofs.contents.contents_of.Goals as goal

pub returns-in-Ok-clause-contents : goal.returns-in-Ok-clause-contents
returns-in-Ok-clause-contents c =
    IfOk-weaker c.contents_in.result _ _ (λ x are.
    contents_so c.args.dumps.now c.args.options.now c.in-Ok.set x c.args.bodies c.in-Ok.ensures.set are)
    c.contents_in.ensures.contents
