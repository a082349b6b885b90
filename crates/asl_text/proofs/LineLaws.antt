-- The lines of each variant, as the printing functions print them.
use Rattle.asl_text.proofs.Common.{◌≡◌, ℕ, ◌+◌, ◌<◌, List, [], ◌∷◌, ◌++◌, append-nil, append_assoc, get_or, take}
use Rattle.asl_text.proofs.Common.{length, Vec, Option, Some, None, refl, sym, ap, ◌∙◌, decimal, Global, Name, Seg}
use Rattle.asl_text.proofs.Common.{PkgWidth, Field, Link, Node, Nothing, Named, Op, Part, node_view, nodes_view}
use Rattle.asl_text.proofs.Common.{parts_view, tail_view, field_view, fields_view, link_view, word, name_text, head_of}
use Rattle.asl_text.proofs.Common.{method_head, tail_text, inline, indent, hex2, byte_pair, byte_end, deeper, line}
use Rattle.asl_text.proofs.Common.{opening, field_text, field_lines, link_text, BodyLines, first_lines, lines}
use Rattle.asl_text.proofs.Common.{term_lines, op_lines, terms_lines, all_lines}
use Rattle.aml_code.specs.declared.tree.Tail.{Tail}
use Rattle.aml_code.specs.Tree.{Parts, slice_of}
use Rattle.aml_code.proofs.Views.{view-Nothing, view-Named, view-Op, view-tail-Empty, view-tail-Terms, view-tail-Bytes}
use Rattle.aml_code.proofs.Views.{view-tail-Elements, view-tail-Fields, view-tail-Body, view-field-NamedUnit}
use Rattle.aml_code.proofs.Views.{view-field-Reserved, view-field-Access, view-field-Connection, view-field-Extended}
use Rattle.aml_code.proofs.Views.{view-link-Target, view-link-Buffer}
use Rattle.aml_code.specs.declared.tree.Field as units
use Rattle.aml_code.specs.declared.tree.Link as joints
use Rattle.aml_code.specs.declared.tree.Tail as tails
use Rattle.aml_code.specs.Tree as trees
use Rattle.asl_text.proofs.TextLaws.{grown, indents}
use Rattle.text_writer.proofs.PrintLaws.{straight}

-- ---- connections and units

module _ (link : Link) where
  pub at_target : (n : Name) → link ≡ joints.Target n → link_text (link_view link) ≡ name_text n
  at_target n e = ap (λ l. link_text (link_view l)) e ∙ ap link_text (view-link-Target n)

  pub at_buffer : (t : Node) → link ≡ joints.Buffer t → link_text (link_view link) ≡ inline (node_view t)
  at_buffer t e = ap (λ l. link_text (link_view l)) e ∙ ap link_text (view-link-Buffer t)

pub ruleset links = (at_target, at_buffer)

module _ (field : Field) where
  pub at_unit : (s : Seg) (w : PkgWidth) (n : ℕ) → field ≡ units.NamedUnit s w n
      → field_text (field_view field) ≡ s.0 ++ word ", " ++ decimal n
  at_unit s w n e = ap (λ f. field_text (field_view f)) e ∙ ap field_text (view-field-NamedUnit s w n)

  pub at_reserved : (w : PkgWidth) (n : ℕ) → field ≡ units.Reserved w n
      → field_text (field_view field) ≡ word "Reserved, " ++ decimal n
  at_reserved w n e = ap (λ f. field_text (field_view f)) e ∙ ap field_text (view-field-Reserved w n)

  pub at_access : (a b : ℕ) → field ≡ units.Access a b
      → field_text (field_view field) ≡ word "Access (" ++ byte_pair a b ++ word ")"
  at_access a b e = ap (λ f. field_text (field_view f)) e ∙ ap field_text (view-field-Access a b)

  pub at_connection : (l : Link) → field ≡ units.Connection l
      → field_text (field_view field) ≡ word "Connection (" ++ link_text (link_view l) ++ word ")"
  at_connection l e = ap (λ f. field_text (field_view f)) e ∙ ap field_text (view-field-Connection l)

  pub at_extended : (a b c : ℕ) → field ≡ units.Extended a b c
      → field_text (field_view field) ≡ word "ExtendedAccess (" ++ byte_pair a b ++ byte_end c
  at_extended a b c e = ap (λ f. field_text (field_view f)) e ∙ ap field_text (view-field-Extended a b c)

pub ruleset fields_of = (at_unit, at_reserved, at_access, at_connection, at_extended)

-- ---- lists

fields-push : (level : ℕ) (us : List Field) (u : Field) → field_lines level (fields_view (us ++ u ∷ []))
    ≡ field_lines level (fields_view us) ++ line level (field_text (field_view u))
fields-push level [] u = append-nil (line level (field_text (field_view u)))
fields-push level (v ∷ us) u =
    ap (λ (l : List ℕ). line level (field_text (field_view v)) ++ l) (fields-push level us u)
    ∙ sym (append_assoc (line level (field_text (field_view v))) (field_lines level (fields_view us)) (line level (field_text (field_view u))))

terms-push : (level : ℕ) (ns : List Node) (n : Node) → all_lines level (nodes_view (ns ++ n ∷ []))
    ≡ all_lines level (nodes_view ns) ++ lines level (node_view n)
terms-push level [] n = append-nil (lines level (node_view n))
terms-push level (m ∷ ns) n =
    ap (λ (l : List ℕ). lines level (node_view m) ++ l) (terms-push level ns n)
    ∙ sym (append_assoc (lines level (node_view m)) (all_lines level (nodes_view ns)) (lines level (node_view n)))

module _ (level : ℕ) where
  pub fields_turned : (us : List Field) (i j : ℕ) (d : Field) → j ≡ i + 1 → i < length us
      → field_lines level (fields_view (take j us))
      ≡ field_lines level (fields_view (take i us)) ++ line level (field_text (field_view (get_or us i d)))
  fields_turned us i j d e h =
      grown (λ vs. field_lines level (fields_view vs)) (λ u. line level (field_text (field_view u))) (fields-push level) us i j d e h

  pub terms_turned : (ns : List Node) (i j : ℕ) (d : Node) → j ≡ i + 1 → i < length ns
      → all_lines level (nodes_view (take j ns))
      ≡ all_lines level (nodes_view (take i ns)) ++ lines level (node_view (get_or ns i d))
  terms_turned ns i j d e h = grown (λ ms. all_lines level (nodes_view ms)) (λ n. lines level (node_view n)) (terms-push level) ns i j d e h

-- ---- nodes, whatever bodies are given

module _ (code : List ℕ) (bs : Option (List BodyLines)) (level : ℕ) where
  as_node : (node : Node) (t : trees.Tree) → node_view node ≡ t → term_lines code bs level t ≡ line level (inline t)
      → term_lines code bs level (node_view node) ≡ line level (inline (node_view node))
  as_node node t is e = rw is e

  pub lines_nothing : (node : Node) → node ≡ Nothing
      → term_lines code bs level (node_view node) ≡ line level (inline (node_view node))
  lines_nothing node e = as_node node trees.nothing (ap node_view e ∙ view-Nothing) refl

  pub lines_named : (node : Node) (n : Name) (args : Vec Node Global) → node ≡ Named n args
      → term_lines code bs level (node_view node) ≡ line level (inline (node_view node))
  lines_named node n args e = as_node node (trees.named n (nodes_view args.items)) (ap node_view e ∙ view-Named n args) refl

  pub lines_op : (node : Node) (o : ℕ) (w : Option PkgWidth) (ps : Vec Part Global) (t : Tail) → node ≡ Op o w ps t
      → term_lines code bs level (node_view node) ≡ op_lines code bs level o (parts_view ps.items) (tail_view t)
  lines_op node o w ps t e = ap (λ n. term_lines code bs level (node_view n)) e ∙ ap (term_lines code bs level) (view-Op o w ps t)

pub ruleset nodes = (lines_nothing, lines_named, lines_op)

-- ---- tails, whatever bodies are given

module _ (code : List ℕ) (bs : Option (List BodyLines)) (level o : ℕ) (ps : Parts) where
  -- a tail that stands on the line
  abbrev IsLine : Tail → Type 0
  IsLine tail = op_lines code bs level o ps (tail_view tail) ≡ line level (head_of o ps ++ tail_text (tail_view tail))

  as_line : (tail : Tail) (t : trees.Tail) → tail_view tail ≡ t
      → op_lines code bs level o ps t ≡ line level (head_of o ps ++ tail_text t) → IsLine tail
  as_line tail t is e = rw is e

  pub tail_empty : (tail : Tail) → tail ≡ tails.Empty → IsLine tail
  tail_empty tail e = as_line tail trees.empty (ap tail_view e ∙ view-tail-Empty) refl

  pub tail_bytes : (tail : Tail) (xs : List ℕ) → tail ≡ tails.Bytes xs → IsLine tail
  tail_bytes tail xs e = as_line tail (trees.bytes xs) (ap tail_view e ∙ view-tail-Bytes xs) refl

  pub tail_elements : (tail : Tail) (ns : Vec Node Global) → tail ≡ tails.Elements ns → IsLine tail
  tail_elements tail ns e = as_line tail (trees.elements (nodes_view ns.items)) (ap tail_view e ∙ view-tail-Elements ns) refl

  pub tail_terms : (tail : Tail) (ns : Vec Node Global) → tail ≡ tails.Terms ns
      → op_lines code bs level o ps (tail_view tail)
      ≡ opening level (head_of o ps) ++ terms_lines code bs (deeper level) (nodes_view ns.items) ++ line level (word "}")
  tail_terms tail ns e = ap (op_lines code bs level o ps) (ap tail_view e ∙ view-tail-Terms ns)

  pub tail_fields : (tail : Tail) (us : Vec Field Global) → tail ≡ tails.Fields us
      → op_lines code bs level o ps (tail_view tail)
      ≡ opening level (head_of o ps) ++ field_lines (deeper level) (fields_view us.items) ++ line level (word "}")
  tail_fields tail us e = ap (op_lines code bs level o ps) (ap tail_view e ∙ view-tail-Fields us)

-- a method without its body, and one with the first of the bodies
pub method_alone : (code : List ℕ) (level o : ℕ) (ps : Parts) (tail : Tail) (start len : ℕ)
    → tail ≡ tails.Body start len
    → op_lines code None level o ps (tail_view tail) ≡ line level (head_of o ps ++ tail_text (tail_view tail))
method_alone code level o ps tail start len e =
    as_line code None level o ps tail (trees.body start len) (ap tail_view e ∙ view-tail-Body start len) (ap (line level) (sym (append-nil (head_of o ps))))

pub method_whole : (code : List ℕ) (bs : List BodyLines) (level o : ℕ) (ps : Parts) (tail : Tail) (start len : ℕ)
    → tail ≡ tails.Body start len
    → op_lines code (Some bs) level o ps (tail_view tail) ≡ opening level (method_head o ps) ++ first_lines bs (deeper level) (slice_of code start len)
    ++ line level (word "}")
method_whole code bs level o ps tail start len e = ap (op_lines code (Some bs) level o ps) (ap tail_view e ∙ view-tail-Body start len)

pub ruleset tail_variants = (tail_empty, tail_bytes, tail_elements, tail_terms, tail_fields, method_alone)

pub ruleset tails_with = (tail_empty, tail_bytes, tail_elements, tail_terms, tail_fields, method_whole)

-- ---- texts by their parts

pub line_is : (level : ℕ) (text : List ℕ) → line level text ≡ indent level ++ text ++ word "\n"
unfolding line
line_is level text = refl

pub opening_is : (level : ℕ) (head : List ℕ) → opening level head ≡ indent level ++ head ++ word " {\n"
unfolding opening
opening_is level head = refl

pub pair_is : (a b : ℕ) → byte_pair a b ≡ (word "0x" ++ hex2 a) ++ word ", " ++ (word "0x" ++ hex2 b)
unfolding byte_pair
pair_is a b = refl

pub end_is : (c : ℕ) → byte_end c ≡ word ", " ++ (word "0x" ++ hex2 c) ++ word ")"
unfolding byte_end
end_is c = refl

pub ruleset printing = (straight, indents, line_is, opening_is, pair_is, end_is, links, fields_of, fields_turned, terms_turned, nodes, tail_variants)
