use Rattle.std.proofs.Common.{◌≡◌, ◌+◌, length, ap, ◌∙◌, arith, rules}
use Rattle.aml_space.proofs.Paths.{long_path}
use Rattle.aml_space.proofs.growing.grow.Goals as goal
use Rattle.aml_space.proofs.growing.grow.Goals.{In-Ok}

long : (c : In-Ok) → length c.push_below.new.nodes.items ≡ length c.args.nodes.now.items + length c.args.path.now + 1
long c = ap length c.in-Ok.ensures.ok ∙ long_path c.args.nodes.now.items c.args.at c.args.seg c.args.path.now

pub overflow_sub-result : goal.overflow_sub-result
overflow_sub-result c = omega (arith, long (goal.at.overflow_sub-result c).In-Ok, c.len.ensures, c.push_below.new.nodes.ok.0)

pub returns-in-Ok-clause-node : goal.returns-in-Ok-clause-node
returns-in-Ok-clause-node c = omega (arith, long (goal.at.returns-in-Ok-clause-node c).In-Ok, c.len.ensures, c.push_below.new.nodes.ok.0)

pub returns-in-Err-clause-err : goal.returns-in-Err-clause-err
returns-in-Err-clause-err c = search rules
