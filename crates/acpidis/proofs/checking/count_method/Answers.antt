use Rattle.acpidis.proofs.Common.{set, sym, ap, ◌∙◌, arith, get_or_read, set_past, added}
use Rattle.acpidis.proofs.checking.count_method.Goals as goal

pub returns-then-mark-len : goal.returns-then-mark-len
returns-then-mark-len c = λ other.
    let all = c.args.all.now.items in
    let t = c.args.mark.table in
    ap (set all t) (c.with_method.ensures ∙ ap (added c.args.mark) (get_or_read all t c.index.result.now (omega arith) c.index.ensures other))

pub returns-else-mark-len : goal.returns-else-mark-len
returns-else-mark-len c = λ other. sym (set_past c.args.all.now.items c.args.mark.table _ (omega arith))
