use Rattle.std.proofs.Common.{length}
use Rattle.std.specs.FinMap as map
use Rattle.acpidis_c.specs.Contents.{row_text, row_value}
use Rattle.acpidis_c.proofs.Listing.{AreBefore}
use Rattle.acpidis_c.proofs.values.rows_of.Given as goal

abbrev pub invariant-rows : goal.invariant-rows
invariant-rows l = AreBefore row_text row_value (map.entries l.space.declarations) l.walk l.items.items l.texts.items

abbrev pub decreases-rows : goal.decreases-rows
decreases-rows l = length l.walk
