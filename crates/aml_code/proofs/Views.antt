-- What each variant of a tree is seen as.
use Rattle.std.proofs.Common.{◌≡◌, ℕ, List, rules, Vec, Option}
use Rattle.std.specs.declared.alloc.Global.{Global}
use Rattle.aml_names.specs.declared.names.Name.{Name}
use Rattle.aml_names.specs.declared.segments.Seg.{Seg}
use Rattle.aml_code.specs.declared.packages.PkgWidth.{PkgWidth}
use Rattle.aml_code.specs.declared.tree.Field.{Field}
use Rattle.aml_code.specs.declared.tree.Node.{Node, Nothing, Named, Op, the_lemmas}
use Rattle.aml_code.specs.declared.tree.Part.{Part}
use Rattle.aml_code.specs.declared.tree.Tail.{Tail}
use Rattle.aml_code.specs.declared.tree.Field as fields
use Rattle.aml_code.specs.declared.tree.Link as links
use Rattle.aml_code.specs.declared.tree.Link.{Link}
use Rattle.aml_code.specs.declared.tree.Part as parts
use Rattle.aml_code.specs.declared.tree.Tail as tails
use Rattle.aml_code.specs.Tree.{nothing, named, op}
use Rattle.aml_code.specs.Tree as trees
use Rattle.aml_code.specs.View.{node_view, nodes_view, part_view, parts_view, tail_view, field_view, fields_view}
use Rattle.aml_code.specs.View.{link_view}

pub view-Nothing : node_view Nothing ≡ nothing
view-Nothing = search (rules, the_lemmas)

pub view-Named : (n : Name) (args : Vec Node Global) → node_view (Named n args) ≡ named n (nodes_view args.items)
view-Named n args = search (rules, the_lemmas)

pub view-Op : (o : ℕ) (w : Option PkgWidth) (ps : Vec Part Global) (t : Tail)
    → node_view (Op o w ps t) ≡ op o w (parts_view ps.items) (tail_view t)
view-Op o w ps t = search (rules, the_lemmas)

pub view-part-Child : (x : Node) → part_view (parts.Child x) ≡ trees.child (node_view x)
view-part-Child x = search (rules, the_lemmas)

pub view-part-Label : (x : Name) → part_view (parts.Label x) ≡ trees.label x
view-part-Label x = search (rules, the_lemmas)

pub view-part-Byte : (x : ℕ) → part_view (parts.Byte x) ≡ trees.byte x
view-part-Byte x = search (rules, the_lemmas)

pub view-part-Word : (x : ℕ) → part_view (parts.Word x) ≡ trees.word x
view-part-Word x = search (rules, the_lemmas)

pub view-part-Dword : (x : ℕ) → part_view (parts.Dword x) ≡ trees.dword x
view-part-Dword x = search (rules, the_lemmas)

pub view-part-Qword : (x : ℕ) → part_view (parts.Qword x) ≡ trees.qword x
view-part-Qword x = search (rules, the_lemmas)

pub view-part-Text : (x : List ℕ) → part_view (parts.Text x) ≡ trees.text x
view-part-Text x = search (rules, the_lemmas)

pub view-tail-Empty : tail_view tails.Empty ≡ trees.empty
view-tail-Empty = search (rules, the_lemmas)

pub view-tail-Terms : (ns : Vec Node Global) → tail_view (tails.Terms ns) ≡ trees.terms (nodes_view ns.items)
view-tail-Terms ns = search (rules, the_lemmas)

pub view-tail-Bytes : (bs : List ℕ) → tail_view (tails.Bytes bs) ≡ trees.bytes bs
view-tail-Bytes bs = search (rules, the_lemmas)

pub view-tail-Elements : (ns : Vec Node Global) → tail_view (tails.Elements ns) ≡ trees.elements (nodes_view ns.items)
view-tail-Elements ns = search (rules, the_lemmas)

pub view-tail-Fields : (us : Vec Field Global) → tail_view (tails.Fields us) ≡ trees.fields (fields_view us.items)
view-tail-Fields us = search (rules, the_lemmas)

pub view-tail-Body : (a n : ℕ) → tail_view (tails.Body a n) ≡ trees.body a n
view-tail-Body a n = search (rules, the_lemmas)

pub view-field-NamedUnit : (s : Seg) (w : PkgWidth) (n : ℕ) → field_view (fields.NamedUnit s w n) ≡ trees.unit s w n
view-field-NamedUnit s w n = search (rules, the_lemmas)

pub view-field-Reserved : (w : PkgWidth) (n : ℕ) → field_view (fields.Reserved w n) ≡ trees.reserved w n
view-field-Reserved w n = search (rules, the_lemmas)

pub view-field-Access : (a b : ℕ) → field_view (fields.Access a b) ≡ trees.access a b
view-field-Access a b = search (rules, the_lemmas)

pub view-field-Connection : (l : Link) → field_view (fields.Connection l) ≡ trees.connection (link_view l)
view-field-Connection l = search (rules, the_lemmas)

pub view-field-Extended : (a b c : ℕ) → field_view (fields.Extended a b c) ≡ trees.extended a b c
view-field-Extended a b c = search (rules, the_lemmas)

pub view-link-Target : (n : Name) → link_view (links.Target n) ≡ trees.target n
view-link-Target n = search (rules, the_lemmas)

pub view-link-Buffer : (t : Node) → link_view (links.Buffer t) ≡ trees.buffer (node_view t)
view-link-Buffer t = search (rules, the_lemmas)
