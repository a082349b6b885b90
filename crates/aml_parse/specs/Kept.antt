-- A stepping stone of the proofs: the names that terms declare, kept one after the other.
use Rattle.std.specs.Prelude.{List, Option}
use Rattle.std.specs.List.{fold}
use Rattle.aml_names.specs.declared.names.Name.{Name}
use Rattle.aml_names.specs.declared.segments.Seg.{Seg}
use Rattle.aml_names.specs.Branches.{with_declared_name}
use Rattle.aml_names.specs.Paths.{PathSet}

-- the paths that are declared after some names more
abbrev pub with_each : Option (List Seg) → PathSet → List Name → PathSet
with_each scope ls ns = fold (with_declared_name scope) ls ns
