use Rattle.std.proofs.Common.{◌++◌, sym, ap, ◌∙◌}
use Rattle.aml_namespace.specs.Kinds.{target_in}
use Rattle.aml_namespace.specs.Known.{Known}
use Rattle.aml_space.proofs.Reaching.{root_read}
use Rattle.aml_space.proofs.spaces.Space.whole.Goals as goal

pub returns : goal.returns
returns c = ap (λ p. p ++ c.args.segs.now) (ap (target_in c.args.self.now.paths) c.root.ensures
    ∙ ap (λ (k : Known). target_in k.paths 0) (sym c.self.view_is) ∙ root_read c.self.inside.nodes.items c.self.invariant.index)
