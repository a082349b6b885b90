use Rattle.aml_text.proofs.Common.{arith, length-map, name_of, nodes_view, names_in, codes_view, trees_view, indexes_in}
use Rattle.aml_text.proofs.ListingLaws.{blocks_many}
use Rattle.aml_text.proofs.tables.ListingBlocks.count.Goals as goal

pub returns : goal.returns
returns c =
    let x = c.args.self.now in
    omega (
      arith,
      c.len.ensures,
      c.len-2.ensures,
      c.len-3.ensures,
      c.min-read.ensures,
      c.min.ensures,
      blocks_many (names_in x.dumps.now (indexes_in x.order)) (codes_view x.loaded.tables.items) (trees_view x.loaded.trees.items),
      length-map (indexes_in x.order) (name_of x.dumps.now),
      length-map x.loaded.tables.items (λ b. b.now),
      length-map x.loaded.trees.items (λ v. nodes_view v.items),
    )
