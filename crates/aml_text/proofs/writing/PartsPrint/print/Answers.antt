use Rattle.aml_text.proofs.Common.{◌++◌, map, prints_then, dumps_text, blocks_in, blocks_text, namespace_text}
use Rattle.std.specs.FinMap as finite
use Rattle.asl_text.specs.Bodies.{body_view}
use Rattle.asl_text.specs.Texts.{body_lines}
use Rattle.aml_text.proofs.writing.PartsPrint.print.Goals as goal

pub returns : goal.returns
returns g c =
    let x = c.args.self.now.0.now in
    let dumps = dumps_text x.dumps.now in
    let rows = namespace_text (finite.entries x.loaded.space.declarations) in
    let blocks = blocks_text (blocks_in x) (map body_lines (map body_view x.bodies.items)) in
    prints_then g.W.Write.contents c.args.out.now c.print_rows.new.out c.print_tables.new.out (dumps ++ rows) blocks
    (prints_then g.W.Write.contents c.args.out.now c.print_dumps.new.out c.print_rows.new.out dumps rows c.print_dumps.ensures c.print_rows.ensures)
    (rw c.as_slice.ensures.value at c.print_tables.ensures)
