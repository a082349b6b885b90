use Rattle.aml_text.proofs.Common.{◌++◌, prints_then, dumps_text, namespace_text, bodies_lines}
use Rattle.aml_text.specs.Told.{kept_blocks}
use Rattle.std.specs.FinMap as finite
use Rattle.aml_text.proofs.writing.KeptPartsPrint.print.Goals as goal

pub returns : goal.returns
returns g c =
    let parts = c.args.self.now in
    let t = parts.tables in
    let dumps = dumps_text t.dumps.now in
    let rows = namespace_text (finite.entries t.set.now.space.declarations) in
    let blocks = kept_blocks t.dumps.now t.set.now.tables.items t.texts.now (bodies_lines parts.bodies) in
    prints_then g.W.Write.contents c.args.out.now c.print_set_rows.new.out c.print_kept.new.out (dumps ++ rows) blocks
    (prints_then g.W.Write.contents c.args.out.now c.print_dumps.new.out c.print_set_rows.new.out dumps rows c.print_dumps.ensures c.print_set_rows.ensures)
    c.print_kept.ensures
