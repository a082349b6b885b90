use Rattle.acpidis.proofs.Common.{ap, ◌∙◌, IfOk-weaker, codes_view, trees_view, names_in, indexes_in, blocks_in}
use Rattle.acpidis.proofs.Common.{checks_with, tried_marks, map, reading_of, marks_of, methods_in}
use Rattle.acpidis.proofs.BodyLaws.{trials_are, entries_are}
use Rattle.acpidis.proofs.CheckLaws.{short_blocks}
use Rattle.acpidis.proofs.checking.check.Goals as goal

pub check_tables-requires-clause-short : goal.check_tables-requires-clause-short
check_tables-requires-clause-short c =
    let x = c.args.listing.now in
    short_blocks (names_in x.dumps.now (indexes_in x.order)) (codes_view x.loaded.tables.items) (trees_view x.loaded.trees.items) c.requires.short

pub returns : goal.returns
returns c =
    let x = c.args.listing.now in
    let marks = trials_are (codes_view x.loaded.tables.items) x.loaded.space x.loaded.methods.items (map reading_of x.bodies.items) c.in_ok-tried.tried.items c.in_ok-tried.ensures.kept
    ∙ ap (marks_of (codes_view x.loaded.tables.items) (methods_in x.loaded.space x.loaded.methods.items)) (entries_are x.bodies.items) in
    IfOk-weaker c.check_tables.result _ _ (λ r is. is
    ∙ (λ i. checks_with (blocks_in x) (tried_marks (c.as_slice-methods.ensures.value i) (c.as_slice.ensures.value i)))
    ∙ ap (checks_with (blocks_in x)) marks) c.check_tables.ensures
