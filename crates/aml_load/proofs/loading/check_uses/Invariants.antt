use Rattle.std.proofs.Common.{◌≡◌, drop}
use Rattle.aml_namespace.specs.Known.{StandsFor}
use Rattle.aml_load.specs.Groups.{uses_of}
use Rattle.aml_load.specs.Declaring.{Listed, uses_at}
use Rattle.aml_load.proofs.loading.check_uses.Given as goal

abbrev pub invariant-loop-group : goal.invariant-loop-group
invariant-loop-group x = (l : Listed) → StandsFor x.space l.entries
    → uses_at x.any_run x.unknown_zero l.entries (uses_of x.space (drop x.group-index x.groups))
    ≡ uses_at x.any_run x.unknown_zero l.entries (uses_of x.space x.groups)
