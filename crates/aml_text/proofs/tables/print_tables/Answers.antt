use Rattle.aml_text.proofs.Common.{List, [], ◌++◌, refl, sym, ◌∙◌, subst, arith, append-nil, at_drop_all, Prints}
use Rattle.aml_text.proofs.Common.{prints_then, prints_none, OneBlock, block_text}
use Rattle.aml_text.proofs.Common.{blocks_text, bodies_lines, block_view}
use Rattle.aml_text.proofs.ListingLaws.{blocks_turn}
use Rattle.aml_text.proofs.tables.print_tables.Goals as goal

pub loop-table-init : goal.loop-table-init
loop-table-init g c = ([], prints_none g.W.Write.contents c.args.out.now, refl)

pub loop-table-preserved : goal.loop-table-preserved
loop-table-preserved g c =
    let all : List OneBlock = g.T.Blocks.blocks c.args.tables.now in
    let i = c.loop-table.table in
    let b : OneBlock = block_view c.block-block.result in
    let bs = bodies_lines c.loop-table.rest in
    let done = c.loop-table.invariant.0 in (
      done ++ block_text b.name b.code b.terms bs,
      prints_then g.W.Write.contents c.args.out.now c.loop-table.out c.print_block-rest.new.out done (block_text b.name b.code b.terms bs)
          c.loop-table.invariant.1 c.print_block-rest.ensures.prints,
      blocks_turn all i b bs (bodies_lines c.print_block-rest.result) done (blocks_text all (bodies_lines c.args.bodies))
          (omega (arith, c.count-table-end.ensures, c.loop-table-test.true)) (c.block-block.ensures b)
          c.print_block-rest.ensures.others c.loop-table.invariant.2,
    )

pub returns : goal.returns
returns g c =
    let all : List OneBlock = g.T.Blocks.blocks c.args.tables.now in
    let rest = bodies_lines c.loop-table.rest in
    let done = c.loop-table.invariant.0 in
    let none = at_drop_all (λ left. done ++ blocks_text left rest) all c.loop-table.table
    (omega (arith, c.count-table-end.ensures, c.loop-table-test.false)) in
    subst (Prints g.W.Write.contents c.args.out.now c.loop-table.out) (sym (append-nil done) ∙ sym none ∙ c.loop-table.invariant.2) c.loop-table.invariant.1
