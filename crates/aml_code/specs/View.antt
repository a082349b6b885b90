-- The tree that a Node stands for.
use Rattle.std.specs.Prelude.{List, [], ◌∷◌, map}
use Rattle.aml_code.specs.declared.tree.Field.{Field as CodeField, fold-Field}
use Rattle.aml_code.specs.declared.tree.Field.TheOpen.{Field-F, Link-F, Node-F, Part-F, Tail-F}
use Rattle.aml_code.specs.declared.tree.Link.{Link as CodeLink, fold-Link}
use Rattle.aml_code.specs.declared.tree.Node.{Node, fold-Node}
use Rattle.aml_code.specs.declared.tree.Part.{Part as CodePart, fold-Part}
use Rattle.aml_code.specs.declared.tree.Tail.{Tail as CodeTail, fold-Tail}
use Rattle.aml_code.specs.Tree.{Tree, nothing, named, op, Trees, no_trees, tree_more, Part, child, label, byte, word}
use Rattle.aml_code.specs.Tree.{dword, qword, text, Parts, no_parts, part_more, Tail, empty, terms, bytes, elements}
use Rattle.aml_code.specs.Tree.{fields, body, Field, unit, reserved, access, connection, extended, Fields, no_fields}
use Rattle.aml_code.specs.Tree.{field_more, Link, target, buffer}

-- lists of trees, of parts and of elements of a field list, as those of a tree
abbrev pub trees_of : List Tree → Trees
trees_of [] = no_trees
trees_of (t ∷ ts) = tree_more t (trees_of ts)

abbrev pub parts_from : List Part → Parts
parts_from [] = no_parts
parts_from (p ∷ ps) = part_more p (parts_from ps)

abbrev pub fields_from : List Field → Fields
fields_from [] = no_fields
fields_from (u ∷ us) = field_more u (fields_from us)

-- What each form stands for (`field_step` to `tail_step`); what is inside it is data already. The letters are its
-- fields, in their order.
abbrev pub field_step : Field-F Field Link Tree Part Tail → Field
field_step (Field-F.NamedUnit s w n) = unit s w n
field_step (Field-F.Reserved w n) = reserved w n
field_step (Field-F.Access a b) = access a b
field_step (Field-F.Connection l) = connection l
field_step (Field-F.Extended a b c) = extended a b c

abbrev pub link_step : Link-F Field Link Tree Part Tail → Link
link_step (Link-F.Target n) = target n
link_step (Link-F.Buffer t) = buffer t

abbrev pub node_step : Node-F Field Link Tree Part Tail → Tree
node_step Node-F.Nothing = nothing
node_step (Node-F.Named n ts) = named n (trees_of ts.items)
node_step (Node-F.Op o w ps t) = op o w (parts_from ps.items) t

abbrev pub part_step : Part-F Field Link Tree Part Tail → Part
part_step (Part-F.Child t) = child t
part_step (Part-F.Label n) = label n
part_step (Part-F.Byte b) = byte b
part_step (Part-F.Word b) = word b
part_step (Part-F.Dword b) = dword b
part_step (Part-F.Qword b) = qword b
part_step (Part-F.Text s) = text s

abbrev pub tail_step : Tail-F Field Link Tree Part Tail → Tail
tail_step Tail-F.Empty = empty
tail_step (Tail-F.Terms ts) = terms (trees_of ts.items)
tail_step (Tail-F.Bytes bs) = bytes bs
tail_step (Tail-F.Elements ts) = elements (trees_of ts.items)
tail_step (Tail-F.Fields us) = fields (fields_from us.items)
tail_step (Tail-F.Body a n) = body a n

-- the tree of a Node
abbrev pub node_view : Node → Tree
node_view = fold-Node Field Link Tree Part Tail field_step link_step node_step part_step tail_step

-- the same of a part, a tail, an element of a field list and a connection
abbrev pub part_view : CodePart → Part
part_view = fold-Part Field Link Tree Part Tail field_step link_step node_step part_step tail_step

abbrev pub tail_view : CodeTail → Tail
tail_view = fold-Tail Field Link Tree Part Tail field_step link_step node_step part_step tail_step

abbrev pub field_view : CodeField → Field
field_view = fold-Field Field Link Tree Part Tail field_step link_step node_step part_step tail_step

abbrev pub link_view : CodeLink → Link
link_view = fold-Link Field Link Tree Part Tail field_step link_step node_step part_step tail_step

-- the trees of several Nodes
abbrev pub nodes_view : List Node → Trees
nodes_view ns = trees_of (map node_view ns)

abbrev pub parts_view : List CodePart → Parts
parts_view ps = parts_from (map part_view ps)

abbrev pub fields_view : List CodeField → Fields
fields_view us = fields_from (map field_view us)
