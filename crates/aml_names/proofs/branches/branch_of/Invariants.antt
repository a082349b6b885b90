use Rattle.std.proofs.Common.{◌≡◌, ◌≤◌, ◌+◌, ◌++◌, length, take}
use Rattle.aml_names.proofs.branches.branch_of.Given as goal

abbrev pub invariant-loop-seg : goal.invariant-loop-seg
invariant-loop-seg g l = record {
  deep : l.depth ≡ l.front + l.seg-index;
  within : l.depth ≤ length (g.S.Stand.path l.scope);
  same : take l.depth (g.S.Stand.path l.scope) ≡ take l.front (g.S.Stand.path l.scope) ++ take l.seg-index l.segs;
}
