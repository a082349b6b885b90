use Rattle.acpi_text.proofs.Common.{◌≡◌, ◌-◌, ◌<◌, length, reverse, sym, ◌∙◌, arith, get_or, get_or-reverse}
use Rattle.acpi_text.proofs.Common.{length-reverse, hex2, prints_turn}
use Rattle.std.proofs.lemmas.Grind.{get_or_default_zero}
use Rattle.acpi_text.proofs.fields.print_reversed.Goals as goal

pub loop-done-preserved : goal.loop-done-preserved
loop-done-preserved g c =
    let bytes = c.args.bytes.now in
    let done = c.loop-done.done in
    let byte = get_or bytes (length bytes - 1 - done) 0 in
    let inside : done < length (reverse bytes) = omega (arith, c.loop-done-test.true, length-reverse bytes) in
    let here : byte ≡ get_or (reverse bytes) done byte =
    sym (get_or_default_zero (reverse bytes) done byte inside ∙ get_or-reverse bytes done 0 c.loop-done-test.true) in
    prints_turn g.W.Write.contents c.args.out.now c.loop-done.out c.print_hex2.new.out hex2 (reverse bytes) done byte inside here
    c.loop-done.invariant c.print_hex2.ensures
