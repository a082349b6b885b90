use Rattle.acpidis.proofs.Common.{refl, Ok, Err, IsKept, IsText, reading_of}
use Rattle.asl_text.specs.declared.bodies.BodyText.TheVariants as kept_texts
use Rattle.acpidis.proofs.texts.keep_terms.Goals as goal

pub returns-in-Tree : goal.returns-in-Tree
returns-in-Tree c =
    let reading = reading_of c.in_ok-nodes.field-0 in
    let kept : IsKept (IsText c.args.level) reading (Ok (kept_texts.Terms c.in-Tree.nodes)) = rw c.in-Tree.is refl in
    (reading, (c.in_ok-nodes.ensures, kept))

pub returns-in-Raw : goal.returns-in-Raw
returns-in-Raw c =
    let reading = reading_of c.in_ok-nodes.field-0 in
    let kept : IsKept (IsText c.args.level) reading (Err c.in-Raw.fault) = rw c.in-Raw.is refl in
    (reading, (c.in_ok-nodes.ensures, kept))
