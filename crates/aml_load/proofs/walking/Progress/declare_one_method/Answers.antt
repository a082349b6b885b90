use Rattle.std.proofs.Common.{◌≡◌, nat_le, length, true, false, arith, rules}
use Rattle.std.proofs.lemmas.Bool.Decides.{nat_tests}
use Rattle.aml_load.specs.Declaring.{most_methods, method_at}
use Rattle.aml_load.specs.Loading.{methods_of}
use Rattle.aml_load.proofs.Holding.{as_many_held}
use Rattle.aml_load.proofs.walking.Progress.declare_one_method.Goals as goal

pub returns-then-len-ge-MAX_METHODS-clause-walks : goal.returns-then-len-ge-MAX_METHODS-clause-walks
unfolding method_at
returns-then-len-ge-MAX_METHODS-clause-walks c l h =
    let full : nat_le most_methods (length (methods_of l.entries)) ≡ true =
    grind (arith, nat_tests, as_many_held c.args.self.now l h, c.len.ensures, c.if-len-ge-MAX_METHODS.true) in
    rw full (search rules)

pub returns-clause-walks : goal.returns-clause-walks
unfolding method_at
returns-clause-walks c l h =
    let room : nat_le most_methods (length (methods_of l.entries)) ≡ false =
    grind (arith, nat_tests, as_many_held c.args.self.now l h, c.len.ensures, c.if-len-ge-MAX_METHODS.false) in
    rw room (c.declare_method.ensures.walks l h)
