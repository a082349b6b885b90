use Rattle.aml_text.proofs.Common.{◌<◌, length, sym, ap, ◌∙◌, arith, length-map, get_or-map, name_of, nodes_view}
use Rattle.aml_text.proofs.Common.{names_in, codes_view, trees_view, indexes_in}
use Rattle.aml_text.proofs.ListingLaws.{blocks_many, block_there}
use Rattle.aml_text.proofs.tables.ListingBlocks.block.Goals as goal

pub index-requires : goal.index-requires
index-requires c =
    let x = c.args.self.now in
    let many = blocks_many (names_in x.dumps.now (indexes_in x.order)) (codes_view x.loaded.tables.items) (trees_view x.loaded.trees.items) in
    omega (arith, c.requires, many, length-map x.loaded.tables.items (λ b. b.now))

pub index-requires-2 : goal.index-requires-2
index-requires-2 c =
    let x = c.args.self.now in
    let many = blocks_many (names_in x.dumps.now (indexes_in x.order)) (codes_view x.loaded.tables.items) (trees_view x.loaded.trees.items) in
    omega (arith, c.requires, many, length-map x.loaded.trees.items (λ v. nodes_view v.items))

pub returns : goal.returns
returns c = λ other.
    let x = c.args.self.now in
    let i = c.args.table in
    let code = c.index.result.now in
    let tree = c.index-2.result.now in
    let many = blocks_many (names_in x.dumps.now (indexes_in x.order)) (codes_view x.loaded.tables.items) (trees_view x.loaded.trees.items) in
    let named : i < length (indexes_in x.order) = omega (arith, c.requires, many, length-map (indexes_in x.order) (name_of x.dumps.now)) in
    let coded : i < length x.loaded.tables.items = omega (arith, c.requires, many, length-map x.loaded.tables.items (λ b. b.now)) in
    let read : i < length x.loaded.trees.items = omega (arith, c.requires, many, length-map x.loaded.trees.items (λ v. nodes_view v.items)) in
    rw c.as_slice.ensures.value
    (block_there (names_in x.dumps.now (indexes_in x.order)) (codes_view x.loaded.tables.items) (trees_view x.loaded.trees.items) i c.name_of.result.now
    code.now (nodes_view tree.items) other c.requires
    (c.name_of.ensures ∙ ap (name_of x.dumps.now) c.dump_of.ensures ∙ sym (get_or-map (name_of x.dumps.now) (indexes_in x.order) i 0 c.name_of.result.now named))
    (ap (λ b. b.now) c.index.ensures ∙ sym (get_or-map (λ b. b.now) x.loaded.tables.items i code code.now coded))
    (ap (λ v. nodes_view v.items) c.index-2.ensures ∙ sym (get_or-map (λ v. nodes_view v.items) x.loaded.trees.items i tree (nodes_view tree.items) read)))
