use Rattle.std.specs.FinMap as map
use Rattle.acpidis.proofs.Common.{◌≡◌, ◌++◌, flat_map, length}
use Rattle.aml_text.specs.Rows.{row_line}
use Rattle.acpidis.proofs.rows.row_texts.Given as goal

abbrev pub invariant-rows : goal.invariant-rows
invariant-rows g l =
    flat_map (λ t. t.items) l.texts.items ++ flat_map row_line l.left
    ≡ flat_map row_line (map.entries l.space.declarations)

abbrev pub decreases-rows : goal.decreases-rows
decreases-rows g l = length l.left
