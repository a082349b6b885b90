use Rattle.aml_parse.proofs.Common.{◌≡◌, drop}
use Rattle.std.specs.Prelude.{map}
use Rattle.aml_code.specs.Lawful.{plain_name}
use Rattle.aml_parse.specs.Kept.{with_each}
use Rattle.aml_parse.proofs.parser.Parser.declare_segments.Given as goal

abbrev pub invariant-loop-seg : goal.invariant-loop-seg
invariant-loop-seg g l =
    let scope = g.N.Names.scope l.self.names.now in let paths = g.N.Names.paths l.self.names.now in
    g.N.Names.fits l.self.names.now l.locals × (with_each scope (paths l.locals) (map plain_name (drop l.seg-index l.segs))
    ≡ with_each scope (paths l.initial.locals) (map plain_name l.segs))
