use Rattle.acpidis.proofs.Common.{zip, ◌≡◌, ◌<◌, get_or, length, sym, ◌∙◌, arith, get_or_default, prints_none}
use Rattle.acpidis.proofs.Common.{prints_turn, prints_end, OneBlock, List, block_view, check_line, Checked}
use Rattle.std.proofs.lemmas.Slice.Zip.{length-zip, get_or-zip}
use Rattle.acpidis.proofs.CheckLaws.{no_check}
use Rattle.acpidis.proofs.check_lines.print_checks.Goals as goal

pub loop-table-init : goal.loop-table-init
loop-table-init g c = prints_none g.W.Write.contents c.args.out.now

pub loop-table-preserved : goal.loop-table-preserved
loop-table-preserved g c =
    let i = c.loop-table.table in
    let blocks : List OneBlock = g.T.Blocks.blocks c.args.tables.now in
    let b = block_view c.block.result in
    let checked = get_or c.args.checks.now i no_check in
    let few : i < length c.args.checks.now = omega arith in
    let many : i < length blocks = omega (arith, c.count.ensures) in
    let both : (b, checked) ≡ (get_or blocks i b, get_or c.args.checks.now i checked) =
    λ k. (c.block.ensures b k, get_or_default c.args.checks.now i no_check checked few k) in
    prints_turn g.W.Write.contents c.args.out.now c.loop-table.out c.print_check.new.out (λ (p : OneBlock × Checked). check_line p.0.name p.1)
    (zip blocks c.args.checks.now) i (b, checked) (omega (arith, length-zip blocks c.args.checks.now))
    (both ∙ sym (get_or-zip blocks c.args.checks.now i (b, checked) many few)) c.loop-table.invariant c.print_check.ensures

pub returns : goal.returns
returns g c =
    let blocks : List OneBlock = g.T.Blocks.blocks c.args.tables.now in
    prints_end g.W.Write.contents c.args.out.now c.loop-table.out (λ (p : OneBlock × Checked). check_line p.0.name p.1) (zip blocks c.args.checks.now)
    c.loop-table.table (omega (arith, length-zip blocks c.args.checks.now, c.count.ensures)) c.loop-table.invariant
