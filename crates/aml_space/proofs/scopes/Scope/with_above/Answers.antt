use Rattle.std.proofs.Common.{◌≡◌, ◌-◌, subst, arith}
use Rattle.aml_space.specs.Candidates.{path_in, names_of, IsNextOf}
use Rattle.aml_space.proofs.scopes.Scope.with_above.Goals as goal

pub returns : goal.returns
returns c =
    let s = c.args.self.now in
    let up : c.above-above.result.depth ≡ c.args.level.depth - 1 = omega (arith, c.above-above.ensures.depth) in
    record {
      level = c.next_with.ensures.level;
      next = subst (λ n. IsNextOf (names_of s) (path_in s) c.args.segment.now n c.next_with.result.depth) up c.next_with.ensures.next;
    }
