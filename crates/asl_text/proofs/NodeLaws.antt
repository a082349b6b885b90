-- The text of each variant of a node, as the printing functions print it.
use Rattle.asl_text.proofs.Common.{◌≡◌, ℕ, Bool, true, false, cond, List, [], ◌∷◌, ◌++◌, map, length, Vec, Option, Some}
use Rattle.asl_text.proofs.Common.{None, refl, ap, ◌∙◌, nil_from_length, Global, Name, PkgWidth, Row, Field, Node}
use Rattle.asl_text.proofs.Common.{Nothing, Named, Op, Part, node_view, nodes_view, part_view, parts_view, tail_view}
use Rattle.asl_text.proofs.Common.{word, hex2, hex4, hex8, hex16, quoted, name_text, joined, arguments_text, braced}
use Rattle.asl_text.proofs.Common.{is_constant, head_of, head_text, inline, inlines, part_text, part_texts, tail_text}
use Rattle.aml_code.specs.declared.tree.Tail.{Tail}
use Rattle.aml_code.proofs.Views.{view-Nothing, view-Named, view-Op, view-part-Child, view-part-Label, view-part-Byte}
use Rattle.aml_code.proofs.Views.{view-part-Word, view-part-Dword, view-part-Qword, view-part-Text, view-tail-Empty}
use Rattle.aml_code.proofs.Views.{view-tail-Terms, view-tail-Bytes, view-tail-Elements, view-tail-Fields}
use Rattle.aml_code.proofs.Views.{view-tail-Body}
use Rattle.aml_code.specs.declared.tree.Part as parts
use Rattle.aml_code.specs.declared.tree.Tail as tails
use Rattle.text_writer.proofs.PrintLaws.{straight}

-- ---- lists

abbrev node_text : Node → List ℕ
node_text n = inline (node_view n)

abbrev one_part_text : Part → List ℕ
one_part_text p = part_text (part_view p)

pub inlines-map : (nodes : List Node) → inlines (nodes_view nodes) ≡ map node_text nodes
inlines-map [] = refl
inlines-map (n ∷ ns) = ap (λ (l : List (List ℕ)). inline (node_view n) ∷ l) (inlines-map ns)

pub part_texts-map : (ps : List Part) → part_texts (parts_view ps) ≡ map one_part_text ps
part_texts-map [] = refl
part_texts-map (p ∷ ps) = ap (λ (l : List (List ℕ)). part_text (part_view p) ∷ l) (part_texts-map ps)

arguments_none : {X : Type 0} (g : X → List ℕ) (xs : List X) → length xs ≡ 0 → arguments_text (map g xs) ≡ []
unfolding arguments_text
arguments_none g xs e = ap (λ ys. arguments_text (map g ys)) (nil_from_length xs e)

arguments_some : {X : Type 0} (g : X → List ℕ) (xs : List X) → (length xs ≡ 0 → ⊥)
    → arguments_text (map g xs) ≡ word " (" ++ joined (map g xs) ++ word ")"
unfolding arguments_text
arguments_some g [] e = absurd (e refl)
arguments_some g (x ∷ xs) e = refl

module _ (nodes : List Node) where
  pub no_arguments : length nodes ≡ 0 → arguments_text (inlines (nodes_view nodes)) ≡ []
  no_arguments e = ap arguments_text (inlines-map nodes) ∙ arguments_none node_text nodes e

  pub some_arguments : (length nodes ≡ 0 → ⊥)
      → arguments_text (inlines (nodes_view nodes)) ≡ word " (" ++ joined (map node_text nodes) ++ word ")"
  some_arguments e = ap arguments_text (inlines-map nodes) ∙ arguments_some node_text nodes e

  pub node_braces : braced (inlines (nodes_view nodes)) ≡ word " {" ++ joined (map node_text nodes) ++ word "}"
  unfolding braced
  node_braces = ap (λ texts. word " {" ++ joined texts ++ word "}") (inlines-map nodes)

pub ruleset arguments = (no_arguments, some_arguments)

pub ruleset braces = (node_braces)

module _ (ps : List Part) where
  pub no_part_arguments : length ps ≡ 0 → arguments_text (part_texts (parts_view ps)) ≡ []
  no_part_arguments e = ap arguments_text (part_texts-map ps) ∙ arguments_none one_part_text ps e

  pub some_part_arguments : (length ps ≡ 0 → ⊥)
      → arguments_text (part_texts (parts_view ps)) ≡ word " (" ++ joined (map one_part_text ps) ++ word ")"
  some_part_arguments e = ap arguments_text (part_texts-map ps) ∙ arguments_some one_part_text ps e

  pub head_none : (o : Option Row) → o ≡ None → head_text o (part_texts (parts_view ps)) ≡ joined (map one_part_text ps)
  unfolding head_text
  head_none o e = ap (λ (r : Option Row). head_text r (part_texts (parts_view ps))) e ∙ ap joined (part_texts-map ps)

  pub head_constant : (r : Row) → is_constant r ≡ true
      → head_text (Some r) (part_texts (parts_view ps)) ≡ joined (map one_part_text ps)
  unfolding head_text
  head_constant r e =
      ap (λ (b : Bool). cond b (joined (part_texts (parts_view ps))) (r.mnemonic ++ arguments_text (part_texts (parts_view ps)))) e
      ∙ ap joined (part_texts-map ps)

pub ruleset part_arguments = (no_part_arguments, some_part_arguments)

-- ---- heads

module _ (texts : List (List ℕ)) where
  pub head_some : (o : Option Row) (r : Row) → o ≡ Some r → head_text o texts ≡ head_text (Some r) texts
  head_some o r e = ap (λ (q : Option Row). head_text q texts) e

  pub head_other : (r : Row) → is_constant r ≡ false → head_text (Some r) texts ≡ r.mnemonic ++ arguments_text texts
  unfolding head_text
  head_other r e = ap (λ (b : Bool). cond b (joined texts) (r.mnemonic ++ arguments_text texts)) e

pub ruleset heads = (head_none, head_some, head_constant, head_other)

-- ---- variants

pub at_nothing : (node : Node) → node ≡ Nothing → inline (node_view node) ≡ []
at_nothing node e = ap (λ n. inline (node_view n)) e ∙ ap inline view-Nothing

pub at_named : (node : Node) (n : Name) (args : Vec Node Global) → node ≡ Named n args
    → inline (node_view node) ≡ name_text n ++ arguments_text (inlines (nodes_view args.items))
at_named node n args e = ap (λ m. inline (node_view m)) e ∙ ap inline (view-Named n args)

pub at_op : (node : Node) (o : ℕ) (w : Option PkgWidth) (ps : Vec Part Global) (t : Tail) → node ≡ Op o w ps t
    → inline (node_view node) ≡ head_of o (parts_view ps.items) ++ tail_text (tail_view t)
at_op node o w ps t e = ap (λ m. inline (node_view m)) e ∙ ap inline (view-Op o w ps t)

pub ruleset inline_nodes = (at_nothing, at_named, at_op)

-- ---- parts

pub at_child : (part : Part) (x : Node) → part ≡ parts.Child x → part_text (part_view part) ≡ inline (node_view x)
at_child part x e = ap (λ p. part_text (part_view p)) e ∙ ap part_text (view-part-Child x)

pub at_label : (part : Part) (x : Name) → part ≡ parts.Label x → part_text (part_view part) ≡ name_text x
at_label part x e = ap (λ p. part_text (part_view p)) e ∙ ap part_text (view-part-Label x)

pub at_byte : (part : Part) (x : ℕ) → part ≡ parts.Byte x → part_text (part_view part) ≡ word "0x" ++ hex2 x
at_byte part x e = ap (λ p. part_text (part_view p)) e ∙ ap part_text (view-part-Byte x)

pub at_word : (part : Part) (x : ℕ) → part ≡ parts.Word x → part_text (part_view part) ≡ word "0x" ++ hex4 x
at_word part x e = ap (λ p. part_text (part_view p)) e ∙ ap part_text (view-part-Word x)

pub at_dword : (part : Part) (x : ℕ) → part ≡ parts.Dword x → part_text (part_view part) ≡ word "0x" ++ hex8 x
at_dword part x e = ap (λ p. part_text (part_view p)) e ∙ ap part_text (view-part-Dword x)

pub at_qword : (part : Part) (x : ℕ) → part ≡ parts.Qword x → part_text (part_view part) ≡ word "0x" ++ hex16 x
at_qword part x e = ap (λ p. part_text (part_view p)) e ∙ ap part_text (view-part-Qword x)

pub at_text : (part : Part) (x : List ℕ) → part ≡ parts.Text x → part_text (part_view part) ≡ quoted x
at_text part x e = ap (λ p. part_text (part_view p)) e ∙ ap part_text (view-part-Text x)

pub ruleset inline_parts = (at_child, at_label, at_byte, at_word, at_dword, at_qword, at_text)

-- ---- tails

pub at_tail_empty : (tail : Tail) → tail ≡ tails.Empty → tail_text (tail_view tail) ≡ []
at_tail_empty tail e = ap (λ t. tail_text (tail_view t)) e ∙ ap tail_text view-tail-Empty

pub at_tail_terms : (tail : Tail) (ns : Vec Node Global) → tail ≡ tails.Terms ns → tail_text (tail_view tail) ≡ []
at_tail_terms tail ns e = ap (λ t. tail_text (tail_view t)) e ∙ ap tail_text (view-tail-Terms ns)

pub at_tail_bytes : (tail : Tail) (bs : List ℕ) → tail ≡ tails.Bytes bs
    → tail_text (tail_view tail) ≡ braced (map hex2 bs)
at_tail_bytes tail bs e = ap (λ t. tail_text (tail_view t)) e ∙ ap tail_text (view-tail-Bytes bs)

pub at_tail_elements : (tail : Tail) (ns : Vec Node Global) → tail ≡ tails.Elements ns
    → tail_text (tail_view tail) ≡ braced (inlines (nodes_view ns.items))
at_tail_elements tail ns e = ap (λ t. tail_text (tail_view t)) e ∙ ap tail_text (view-tail-Elements ns)

pub at_tail_fields : (tail : Tail) (us : Vec Field Global) → tail ≡ tails.Fields us → tail_text (tail_view tail) ≡ []
at_tail_fields tail us e = ap (λ t. tail_text (tail_view t)) e ∙ ap tail_text (view-tail-Fields us)

pub at_tail_body : (tail : Tail) (a n : ℕ) → tail ≡ tails.Body a n → tail_text (tail_view tail) ≡ []
at_tail_body tail a n e = ap (λ t. tail_text (tail_view t)) e ∙ ap tail_text (view-tail-Body a n)

pub ruleset inline_tails = (at_tail_empty, at_tail_terms, at_tail_bytes, at_tail_elements, at_tail_fields, at_tail_body)

pub ruleset printing = (straight, inline_nodes, arguments, heads, part_arguments, inline_parts, inline_tails, braces)
