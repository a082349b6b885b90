use Rattle.aml_space.specs.Nodes.{path_of}
use Rattle.aml_space.proofs.Index.{declared_again, put_nothing}
use Rattle.aml_space.proofs.Keeping.{err_then}
use Rattle.aml_space.proofs.growing.declare_again.Goals as goal

pub returns-clause-index : goal.returns-clause-index
returns-clause-index c = (declared_again c.args.nodes.now.items c.put_again.new.nodes.items (path_of c.args.nodes.now.items c.args.at) c.args.at c.requires.index (c.requires.index.there c.args.at c.requires.within)
    c.requires.declared c.args.kind c.args.sure c.requires.target c.put_again.result c.put_again.ensures.ok c.put_again.ensures.err).0

pub returns-clause-ok : goal.returns-clause-ok
returns-clause-ok c = (declared_again c.args.nodes.now.items c.put_again.new.nodes.items (path_of c.args.nodes.now.items c.args.at) c.args.at c.requires.index (c.requires.index.there c.args.at c.requires.within)
    c.requires.declared c.args.kind c.args.sure c.requires.target c.put_again.result c.put_again.ensures.ok c.put_again.ensures.err).1

pub returns-clause-rows : goal.returns-clause-rows
returns-clause-rows c = (declared_again c.args.nodes.now.items c.put_again.new.nodes.items (path_of c.args.nodes.now.items c.args.at) c.args.at c.requires.index (c.requires.index.there c.args.at c.requires.within)
    c.requires.declared c.args.kind c.args.sure c.requires.target c.put_again.result c.put_again.ensures.ok c.put_again.ensures.err).2

pub returns-clause-err : goal.returns-clause-err
returns-clause-err c = err_then c.put_again.result (λ has. (put_nothing c.args.nodes.now.items c.put_again.new.nodes.items (path_of c.args.nodes.now.items c.args.at) c.args.at
    c.requires.index (c.requires.index.there c.args.at c.requires.within) has).1) c.put_again.ensures.err
