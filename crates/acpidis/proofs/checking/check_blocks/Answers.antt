use Rattle.acpidis.proofs.Common.{map_more, List, ◌≤◌, ◌++◌, ◌∷◌, ap₂, sym, Checked, [], length, ap, ◌∙◌, arith, map}
use Rattle.acpidis.proofs.Common.{take_all, no_trees, OneBlock, block_view, uncounted, All-get_or}
use Rattle.acpidis.proofs.checking.check_blocks.Goals as goal

pub check_block-requires : goal.check_block-requires
check_block-requires g c =
    let none : OneBlock = record { name = []; code = []; terms = no_trees } in
    let short = All-get_or (λ (b : OneBlock). length b.code ≤ 16777216) (g.T.Blocks.blocks c.args.tables.now) c.loop-table.table none
    (omega (arith, c.count-table-end.ensures, c.loop-table-test.true)) c.requires.short in
    omega (arith, short, ap (λ (b : OneBlock). length b.code) (c.block-block.ensures none))

pub loop-table-preserved : goal.loop-table-preserved
loop-table-preserved g c =
    let all : List OneBlock = g.T.Blocks.blocks c.args.tables.now in
    let b = block_view c.block-block.result in
    c.in_ok-push.ensures.items
    ∙ ap₂ (λ (l : List Checked) (x : Checked). l ++ x ∷ []) c.loop-table.invariant (c.in_ok-check_block.ensures ∙ ap uncounted (c.block-block.ensures b))
    ∙ sym (map_more uncounted all c.loop-table.table b (omega (arith, c.count-table-end.ensures, c.loop-table-test.true)))

pub returns : goal.returns
returns g c =
    let all : List OneBlock = g.T.Blocks.blocks c.args.tables.now in
    c.loop-table.invariant ∙ ap (map uncounted) (take_all c.loop-table.table all (omega (arith, c.count-table-end.ensures, c.loop-table-test.false)))
