use Rattle.std.proofs.Common.{rules, ◌≡◌, ◌≤◌, ◌++◌, ap, arith, subst}
use Rattle.aml_pool.specs.Counting.{times}
use Rattle.aml_pool.proofs.Counts.{times-append}
use Rattle.aml_pool.proofs.Moves.{joins, looks}
use Rattle.aml_pool.proofs.board.Board.join.Goals as goal

pub join_seat-requires : goal.join_seat-requires
join_seat-requires c = (search rules, search rules, search rules, search rules, joins _ _ _ _ _ (let t = c.args.seat.told in omega arith))

pub load-requires : goal.load-requires
load-requires c = (search rules, search rules, looks _ _ _ _)

pub returns-clause-apart : goal.returns-clause-apart
returns-clause-apart c = λ x.
    let mine = c.args.seat.seat.me.0.numbers in let theirs = c.args.other.seat.me.0.numbers in
    let both : c.join_seat.new.seat.me.0.numbers ≡ mine ++ theirs = ap (λ m. m.0.numbers) c.join_seat.ensures.2 in
    let once : times x c.join_seat.new.seat.me.0.numbers ≤ 1 = c.load.ensures.2.2 x in
    let all : times x (mine ++ theirs) ≤ 1 = subst (λ l. times x l ≤ 1) both once in
    omega (arith, times-append x mine theirs)
