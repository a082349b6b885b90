use Rattle.std.proofs.Common.{length, take}
use Rattle.aml_space.specs.Candidates.{path_in, names_of}
use Rattle.aml_space.proofs.Asked.{of_through, unknown_past}
use Rattle.aml_space.proofs.scopes.Scope.first_with.Goals as goal

pub returns : goal.returns
returns c =
    let s = c.args.self.now in
    record {
      level = c.next_with.ensures.level;
      next = of_through (names_of s) (path_in s) c.args.segment.now (length (path_in s)) s.last.depth c.next_with.result.depth (record {
        within = c.requires.scope.last.within;
        unknown = λ d past within. unknown_past s.nodes.now c.requires.scope.index.shape (take d (path_in s)) c.args.segment.now (c.requires.scope.past d past within);
      }) c.next_with.ensures.next;
    }
