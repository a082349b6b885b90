use Rattle.aml_text.proofs.Common.{arith}
use Rattle.aml_text.proofs.ListingLaws.{tables_many}
use Rattle.aml_text.proofs.tables.TablesBlocks.count.Goals as goal

pub returns : goal.returns
returns c = let t = c.args.self.now in omega (arith, c.len.ensures, tables_many t.dumps.now t.set.now.tables.items)
