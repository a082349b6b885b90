-- A tree of terms as plain data: what a Node is, without where it lies in memory.
--
--   in the code            here
--   Node, Vec<Node>        Tree, Trees
--   Part, Vec<Part>        Part, Parts: what stands in a fixed place after an opcode
--   Tail                   Tail: what follows the parts, to the end of the package
--   Field, Vec<Field>      Field, Fields: an element of a field list
--   Link                   Link: what a connection leads to
--
-- What a form is, and what its parts are, the texts of a Node's forms say, which stand beside these at `node_view`.
use Rattle.std.specs.Prelude.{ℕ, suc, List, Option, ◌+◌, ◌/◌, ◌%◌, ltb, cond, [], ◌∷◌, ◌++◌, length, take, drop, Some}
use Rattle.std.specs.Prelude.{None}
use Rattle.aml_names.specs.declared.segments.Seg.{Seg}
use Rattle.aml_names.specs.declared.names.Name.{Name}
use Rattle.aml_code.specs.declared.packages.PkgWidth.{PkgWidth}
use Rattle.aml_names.specs.Names.{spelling}
use Rattle.aml_code.specs.Packages.{little, width_len, package_bytes}

mutual
  pub data Tree : Type 0 where
    nothing : Tree
    named : Name → Trees → Tree
    op : ℕ → Option PkgWidth → Parts → Tail → Tree

  pub data Trees : Type 0 where
    no_trees : Trees
    tree_more : Tree → Trees → Trees

  pub data Part : Type 0 where
    child : Tree → Part
    label : Name → Part
    byte : ℕ → Part
    word : ℕ → Part
    dword : ℕ → Part
    qword : ℕ → Part
    text : List ℕ → Part

  pub data Parts : Type 0 where
    no_parts : Parts
    part_more : Part → Parts → Parts

  pub data Tail : Type 0 where
    empty : Tail
    terms : Trees → Tail
    bytes : List ℕ → Tail
    elements : Trees → Tail
    fields : Fields → Tail
    body : ℕ → ℕ → Tail

  pub data Field : Type 0 where
    unit : Seg → PkgWidth → ℕ → Field
    reserved : PkgWidth → ℕ → Field
    access : ℕ → ℕ → Field
    connection : Link → Field
    extended : ℕ → ℕ → ℕ → Field

  pub data Fields : Type 0 where
    no_fields : Fields
    field_more : Field → Fields → Fields

  pub data Link : Type 0 where
    target : Name → Link
    buffer : Tree → Link

-- ---- How many terms a list has.

abbrev pub tree_count : Trees → ℕ
tree_count no_trees = 0
tree_count (tree_more t ts) = suc (tree_count ts)

-- ---- The bytes of a tree (ACPI 6.5, 20.2). A method's body that wasn't read is a span of the code around it.

-- an opcode is one byte, or 5B and one more
abbrev pub opcode_bytes : ℕ → List ℕ
opcode_bytes o = cond (ltb o 256) (o ∷ []) ((o / 256) ∷ (o % 256) ∷ [])

-- a package: its length, which counts its own bytes too, and the content; or the content alone
abbrev pub packed : Option PkgWidth → List ℕ → List ℕ
packed None content = content
packed (Some w) content = package_bytes w (width_len w + length content) ++ content

-- so many bytes of the code from an offset on
abbrev pub slice_of : List ℕ → ℕ → ℕ → List ℕ
slice_of code start len = take len (drop start code)

abbrev mutual
  pub encoding : List ℕ → Tree → List ℕ
  encoding code nothing = 0x00 ∷ []
  encoding code (named n ts) = spelling n ++ encodings code ts
  encoding code (op o w ps t) = opcode_bytes o ++ packed w (parts_encoding code ps ++ tail_encoding code t)

  pub encodings : List ℕ → Trees → List ℕ
  encodings code no_trees = []
  encodings code (tree_more t ts) = encoding code t ++ encodings code ts

  pub part_encoding : List ℕ → Part → List ℕ
  part_encoding code (child t) = encoding code t
  part_encoding code (label n) = spelling n
  part_encoding code (byte b) = little 1 b
  part_encoding code (word n) = little 2 n
  part_encoding code (dword n) = little 4 n
  part_encoding code (qword n) = little 8 n
  part_encoding code (text s) = s ++ 0x00 ∷ []

  pub parts_encoding : List ℕ → Parts → List ℕ
  parts_encoding code no_parts = []
  parts_encoding code (part_more p ps) = part_encoding code p ++ parts_encoding code ps

  pub tail_encoding : List ℕ → Tail → List ℕ
  tail_encoding code empty = []
  tail_encoding code (terms ts) = encodings code ts
  tail_encoding code (bytes bs) = bs
  tail_encoding code (elements ts) = encodings code ts
  tail_encoding code (fields us) = fields_encoding code us
  tail_encoding code (body start len) = slice_of code start len

  pub fields_encoding : List ℕ → Fields → List ℕ
  fields_encoding code no_fields = []
  fields_encoding code (field_more u us) = field_encoding code u ++ fields_encoding code us

  pub field_encoding : List ℕ → Field → List ℕ
  field_encoding code (unit s w n) = s.0 ++ package_bytes w n
  field_encoding code (reserved w n) = 0x00 ∷ package_bytes w n
  field_encoding code (access a b) = 0x01 ∷ a ∷ b ∷ []
  field_encoding code (connection l) = 0x02 ∷ link_encoding code l
  field_encoding code (extended a b c) = 0x03 ∷ a ∷ b ∷ c ∷ []

  pub link_encoding : List ℕ → Link → List ℕ
  link_encoding code (target n) = spelling n
  link_encoding code (buffer t) = encoding code t
