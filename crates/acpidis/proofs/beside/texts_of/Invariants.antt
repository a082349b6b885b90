use Rattle.acpidis.proofs.Common.{◌≡◌, ◌++◌, map}
use Rattle.std.specs.Vec.Iter.{into_iter_items}
use Rattle.acpidis.specs.Beside.{text_in}
use Rattle.acpidis.proofs.beside.texts_of.Given as goal

abbrev pub invariant-loop-part : goal.invariant-loop-part
invariant-loop-part l =
    l.texts.items ++ map text_in (into_iter_items l.part-iterator) ≡ map text_in (into_iter_items l.initial.part-iterator)
