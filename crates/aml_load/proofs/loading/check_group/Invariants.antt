use Rattle.std.proofs.Common.{◌≡◌, drop}
use Rattle.aml_namespace.specs.Known.{StandsFor, of_paths, path_at}
use Rattle.aml_load.specs.Groups.{group_uses, named_in}
use Rattle.aml_load.specs.Declaring.{Listed, uses_at}
use Rattle.aml_load.proofs.loading.check_group.Given as goal

abbrev pub invariant-loop-asked : goal.invariant-loop-asked
invariant-loop-asked x = record {
  passed : (l : Listed) → StandsFor x.space l.entries
      → uses_at x.any_run x.unknown_zero l.entries (named_in (path_at x.space x.group.scope) (drop x.asked-index x.group.names.items))
      ≡ uses_at x.any_run x.unknown_zero l.entries (group_uses x.space x.group);
  known : x.names.known ≡ of_paths x.space;
  method : x.names.method ≡ path_at x.space x.group.scope;
}
