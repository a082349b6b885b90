use Rattle.std.proofs.Common.{rules, take, ◌++◌, arith, ◌≡◌, ◌-◌, None}
use Rattle.aml_space.specs.Candidates.{path_in, names_of}
use Rattle.aml_space.proofs.Asked.{unknown_at, of_up, of_through}
use Rattle.aml_space.proofs.scopes.Scope.next_with.Goals as goal

pub loop-at-preserved : goal.loop-at-preserved
loop-at-preserved c =
    let s = c.args.self.now in
    let segment = c.args.segment.now in
    let at = c.loop-at.at in
    let inv = c.loop-at.invariant in
    let above = c.next_above-at.ensures in
    let none : c.node_at.result ≡ None = search rules in
    record {
      level = above.level;
      next = of_through (names_of s) (path_in s) segment c.args.level.depth (at.depth - 1) c.next_above-at.result.depth
          (of_up (names_of s) (path_in s) segment c.args.level.depth at.depth (omega (arith, c.loop-at-test.true)) inv.next
          (unknown_at s.nodes.now c.requires.scope.index.shape (take at.depth (path_in s) ++ segment) c.node_at.result c.node_at.ensures.node none))
          above.next;
    }
