-- What the workers share may be shared.
use denote.Param.Send.{IsSend}
use Rattle.acpidis.specs.contracts.beside.Part as Part
use Rattle.acpidis.proofs.Common.{IsSync, sendable, recorded_sync, shr_sync, struct_sync}
use denote.Ref.{NamedLft}
use denote.RattleType.{RattleType}
use denote.Struct.Declared.{shape}
use Rattle.std.proofs.Crossing.{crosses}
use Rattle.std.proofs.MapsCrossing as Maps
use Rattle.aml_code.proofs.tree.Field.TheLaws.TheKnot as Field
use Rattle.aml_code.specs.contracts.tree.Node as Node
use Rattle.aml_load.below.aml_children.proofs.trees.Tree.TheLaws.TheKnot as Tree
use Rattle.aml_set.specs.contracts.tables.TableSet as TableSet
use Rattle.aml_space.specs.contracts.rows.Row as Row
use Rattle.aml_space.specs.contracts.spaces.Space as Space
use Rattle.acpidis.specs.contracts.bodies.Keeping as Keeping
use Rattle.acpidis.specs.contracts.rows.Printing as Printing

space_sync : IsSync Space.the_row
space_sync = search (crosses, Maps.crosses, Tree.crosses, sendable) depth 80 fits 60000

node_sync : IsSync Node.the_row
node_sync = search (crosses, Field.crosses, sendable) depth 80 fits 60000

set_sync : (b : NamedLft) → IsSync (TableSet.the_row b)
set_sync b = search (space_sync, node_sync, crosses, sendable) depth 60 fits 40000

pub keeping_sync : (a b : NamedLft) (K : RattleType) → IsSync K → IsSync (Keeping.the_row a b K)
keeping_sync a b K kept =
    let T = Keeping.the_type a b K in
    recorded_sync _ _ T.to T.to_one (struct_sync (shape T) (
      search (sendable, crosses),
      (shr_sync _ _ (TableSet.the_row b) (set_sync b), (search (sendable, crosses), (shr_sync _ _ K kept, tt))),
    ))

row_sync : (a : NamedLft) → IsSync (Row.the_row a)
row_sync a = search (crosses, Maps.crosses, Tree.crosses, sendable) depth 80 fits 60000

pub printing_sync : (r a : NamedLft) → IsSync (Printing.the_row r a)
printing_sync r a =
    let T = Printing.the_type r a in
    recorded_sync _ _ T.to T.to_one (struct_sync (shape T) (search (row_sync, crosses, sendable)))

-- ---- what a worker makes of a set may be handed on
space_send : IsSend Space.the_row
space_send = search (crosses, Maps.crosses, Tree.crosses, sendable) depth 80 fits 60000

node_send : IsSend Node.the_row
node_send = search (crosses, Field.crosses, sendable) depth 80 fits 60000

set_send : (b : NamedLft) → IsSend (TableSet.the_row b)
set_send b = search (space_send, node_send, crosses, sendable) depth 60 fits 40000

pub part_send : (b : NamedLft) → IsSend (Part.the_row b)
part_send b = search (set_send, crosses, sendable) depth 60 fits 40000
