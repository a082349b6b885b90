use Rattle.aml_text.proofs.Common.{◌<◌, length, arith}
use Rattle.aml_text.proofs.ListingLaws.{tables_many, table_there}
use Rattle.aml_text.proofs.tables.TablesBlocks.block.Goals as goal

pub index-table-requires : goal.index-table-requires
index-table-requires c = let t = c.args.self.now in omega (arith, c.requires, tables_many t.dumps.now t.set.now.tables.items)

pub returns : goal.returns
returns c = λ other.
    let t = c.args.self.now in
    let inside : c.args.table < length t.set.now.tables.items = omega (arith, c.requires, tables_many t.dumps.now t.set.now.tables.items) in
    rw c.as_slice.ensures.value
    (table_there t.dumps.now t.set.now.tables.items c.args.table c.index-table.result.now c.name_of.result.now other inside c.index-table.ensures c.name_of.ensures)
