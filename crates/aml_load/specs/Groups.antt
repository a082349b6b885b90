-- A stepping stone: the names outside the methods in groups of one scope.
use Rattle.std.specs.Prelude.{◌<◌, List, length, map as map_list, flat_map}
use Rattle.std.specs.List.{AllByRecursion}
use Rattle.aml_names.specs.declared.segments.Seg.{Seg}
use Rattle.aml_load.specs.declared.used.Asked.{Asked}
use Rattle.aml_load.specs.declared.groups.Group.{Group}
use Rattle.aml_namespace.specs.Known.{Known, path_at}
use Rattle.aml_load.specs.Declaring.{Use}

-- a name that stands in a scope
abbrev pub use_in : List Seg → Asked → Use
use_in scope a = record { table = a.table; scope = scope; name = a.name; args = a.args; declaring = a.declaring }

abbrev pub named_in : List Seg → List Asked → List Use
named_in scope names = map_list (use_in scope) names

-- the names of groups, by the paths of a space
abbrev pub group_uses : Known → Group → List Use
group_uses k g = named_in (path_at k g.scope) g.names.items

abbrev pub uses_of : Known → List Group → List Use
uses_of k gs = flat_map (group_uses k) gs

-- the scopes of groups have numbers
abbrev pub AreKnown : Known → List Group → Type 0
AreKnown k gs = AllByRecursion (λ g. g.scope < length k.paths) gs
