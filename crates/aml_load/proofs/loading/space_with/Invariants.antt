use Rattle.std.proofs.Common.{take}
use Rattle.aml_namespace.specs.Namespace.{given_entries}
use Rattle.aml_namespace.specs.Known.{StandsFor}
use Rattle.aml_load.proofs.loading.space_with.Given as goal

abbrev pub invariant-loop-path : goal.invariant-loop-path
invariant-loop-path l = record {
  stands : StandsFor l.space (given_entries (take l.path-index l.givens));
}
