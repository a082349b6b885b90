use Rattle.std.proofs.Common.{◌≡◌, Bool, true, false, not, sym, ap, ◌∙◌}
use Rattle.aml_code.specs.Pieces.{tail}
use Rattle.aml_code.specs.Tree.{Tail, empty, bytes}
use Rattle.aml_load.specs.Declaring.{body_span}
use Rattle.aml_load.specs.Hearing.{is_head, top}
use Rattle.aml_load.specs.HearingViews.{around_view, heard_by, stack_view, IsQuiet}
use Rattle.aml_load.specs.declared.ears.Around.{Around as KeptAround}
use Rattle.aml_load.specs.declared.hearing.Hearing.{Hearing}
use Rattle.aml_load.proofs.Steps.{closed_else}
use Rattle.aml_load.proofs.hearing.Hearing.is_quiet.Goals as goal

-- behind a tail, where no parts of a term of a list stand around
quiet_tail : (old : Hearing) (t : Tail) (a : KeptAround) (test : Bool) → not test ≡ true
    → test ≡ is_head (around_view old.progress.space a)
    → around_view old.progress.space a ≡ top (stack_view old.progress.space old.ears.around.items) → IsQuiet old (tail t)
quiet_tail old t a true is same there = absurd cc
quiet_tail old t a false is same there = λ l.
    closed_else (top (heard_by old l).around) (body_span t) (heard_by old l) (ap is_head (sym there) ∙ sym same)

pub returns-in-Empty : goal.returns-in-Empty
returns-in-Empty c = λ is.
    let k = c.args.self.now.progress.space in
    rw c.in-Empty.is (quiet_tail c.args.self.now empty c.top.result c.is_head.result is (c.is_head.ensures k) (c.top.ensures.top k))

pub returns-in-Bytes : goal.returns-in-Bytes
returns-in-Bytes c = λ is.
    let k = c.args.self.now.progress.space in
    rw c.in-Bytes.is (quiet_tail c.args.self.now (bytes c.in-Bytes.field-0.now) c.top-in-Bytes.result c.is_head-in-Bytes.result is (c.is_head-in-Bytes.ensures k) (c.top-in-Bytes.ensures.top k))
