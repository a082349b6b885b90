use Rattle.std.specs.Prelude.{take}
use Rattle.aml_text.proofs.Common.{flat_map, Prints}
use Rattle.aml_text.proofs.rows.print_texts.Given as goal

abbrev pub invariant-loop-text : goal.invariant-loop-text
invariant-loop-text g l =
    Prints g.W.Write.contents l.initial.out l.out (flat_map (λ t. t.items) (take l.text-index l.texts))
