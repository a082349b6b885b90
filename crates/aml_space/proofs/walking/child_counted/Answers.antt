use Rattle.std.proofs.Common.{sym, subst, length}
use Rattle.aml_children.specs.Children.{Rise}
use Rattle.aml_space.specs.Nodes.{kids_of}
use Rattle.aml_children.proofs.Family.{family_rises}
use Rattle.aml_space.proofs.walking.child_counted.Goals as goal

pub find-requires : goal.find-requires
find-requires c = subst Rise (sym c.children_at.ensures) (family_rises c.args.at (length c.args.nodes.now) (kids_of c.args.nodes.now c.args.at)
    (c.requires.shape.families c.args.at))
