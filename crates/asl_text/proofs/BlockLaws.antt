-- The heads of methods, and the bodies that are left, as the printing functions print and answer them.
use Rattle.asl_text.proofs.Common.{◌≡◌, ℕ, List, ◌∷◌, ◌++◌, drop, length, append_assoc, Vec, Option, Some, None, sym}
use Rattle.asl_text.proofs.Common.{ap, ◌∙◌, drop-drop, length-append, Global, Name, PkgWidth, Field, Node, Nothing}
use Rattle.asl_text.proofs.Common.{Named, Op, Part, node_view, nodes_view, tail_view, deeper, method_text}
use Rattle.asl_text.proofs.Common.{method_head_by, BodyLines, levels_in, tail_levels, all_levels, behind, term_lines}
use Rattle.asl_text.proofs.Common.{terms_lines, word, decimal, refl}
use Rattle.aml_code.specs.declared.tree.Tail.{Tail}
use Rattle.aml_code.proofs.Views.{view-Nothing, view-Named, view-Op, view-tail-Empty, view-tail-Terms, view-tail-Bytes}
use Rattle.aml_code.proofs.Views.{view-tail-Elements, view-tail-Fields, view-tail-Body}
use Rattle.aml_code.specs.declared.tree.Tail as tails
use Rattle.text_writer.proofs.PrintLaws.{straight}
use Rattle.asl_text.proofs.LineLaws.{nodes, tails_with}
use Rattle.std.specs.Prelude.{◌%◌, ◌/◌}
use Rattle.asl_text.specs.Texts.{serialized_text}
unfoldable use Rattle.asl_text.specs.Texts.{flags_text}

pub head_unnamed : (o : Option Name) (f : Option ℕ) (other : List ℕ) → o ≡ None → method_head_by o f other ≡ other
head_unnamed o f other e = ap (λ (n : Option Name). method_head_by n f other) e

pub head_unflagged : (o : Option Name) (f : Option ℕ) (other : List ℕ) (n : Name) → o ≡ Some n → f ≡ None
    → method_head_by o f other ≡ other
head_unflagged o f other n e h = ap (λ (m : Option Name). method_head_by m f other) e ∙ ap (λ (g : Option ℕ). method_head_by (Some n) g other) h

pub head_whole : (o : Option Name) (f : Option ℕ) (other : List ℕ) (n : Name) (flags : ℕ) → o ≡ Some n → f ≡ Some flags
    → method_head_by o f other ≡ method_text n flags
head_whole o f other n flags e h = ap (λ (m : Option Name). method_head_by m f other) e ∙ ap (λ (g : Option ℕ). method_head_by (Some n) g other) h

pub ruleset heads = (head_unnamed, head_unflagged, head_whole)

-- ---- the bodies that are left

module _ (level : ℕ) (bs : List BodyLines) where
  pub behind_nothing : (node : Node) → node ≡ Nothing → behind (levels_in level (node_view node)) bs ≡ bs
  behind_nothing node e = ap (λ t. behind (levels_in level t) bs) (ap node_view e ∙ view-Nothing)

  pub behind_named : (node : Node) (n : Name) (args : Vec Node Global) → node ≡ Named n args
      → behind (levels_in level (node_view node)) bs ≡ bs
  behind_named node n args e = ap (λ t. behind (levels_in level t) bs) (ap node_view e ∙ view-Named n args)

  pub behind_op : (node : Node) (o : ℕ) (w : Option PkgWidth) (ps : Vec Part Global) (t : Tail) → node ≡ Op o w ps t
      → behind (levels_in level (node_view node)) bs ≡ behind (tail_levels (deeper level) (tail_view t)) bs
  behind_op node o w ps t e = ap (λ y. behind (levels_in level y) bs) (ap node_view e ∙ view-Op o w ps t)

  pub behind_empty : (tail : Tail) → tail ≡ tails.Empty → behind (tail_levels level (tail_view tail)) bs ≡ bs
  behind_empty tail e = ap (λ t. behind (tail_levels level t) bs) (ap tail_view e ∙ view-tail-Empty)

  pub behind_bytes : (tail : Tail) (xs : List ℕ) → tail ≡ tails.Bytes xs
      → behind (tail_levels level (tail_view tail)) bs ≡ bs
  behind_bytes tail xs e = ap (λ t. behind (tail_levels level t) bs) (ap tail_view e ∙ view-tail-Bytes xs)

  pub behind_elements : (tail : Tail) (ns : Vec Node Global) → tail ≡ tails.Elements ns
      → behind (tail_levels level (tail_view tail)) bs ≡ bs
  behind_elements tail ns e = ap (λ t. behind (tail_levels level t) bs) (ap tail_view e ∙ view-tail-Elements ns)

  pub behind_fields : (tail : Tail) (us : Vec Field Global) → tail ≡ tails.Fields us
      → behind (tail_levels level (tail_view tail)) bs ≡ bs
  behind_fields tail us e = ap (λ t. behind (tail_levels level t) bs) (ap tail_view e ∙ view-tail-Fields us)

  pub behind_terms : (tail : Tail) (ns : Vec Node Global) → tail ≡ tails.Terms ns
      → behind (tail_levels level (tail_view tail)) bs ≡ behind (all_levels level (nodes_view ns.items)) bs
  behind_terms tail ns e = ap (λ t. behind (tail_levels level t) bs) (ap tail_view e ∙ view-tail-Terms ns)

  pub behind_body : (tail : Tail) (start len : ℕ) → tail ≡ tails.Body start len
      → behind (tail_levels level (tail_view tail)) bs ≡ drop 1 bs
  behind_body tail start len e = ap (λ t. behind (tail_levels level t) bs) (ap tail_view e ∙ view-tail-Body start len)

pub ruleset behind_nodes = (behind_nothing, behind_named, behind_op)

pub ruleset behind_tails = (behind_empty, behind_bytes, behind_elements, behind_fields, behind_terms, behind_body)

-- ---- lists of terms of a table

pub behind_both : (ls more : List ℕ) (bs : List BodyLines) → behind more (behind ls bs) ≡ behind (ls ++ more) bs
behind_both ls more bs = drop-drop (length more) (length ls) bs ∙ ap (λ n. drop n bs) (sym (length-append ls more))

-- what was printed, and what is still to be
pub table_turn : (code : List ℕ) (level : ℕ) (n : Node) (ns : List Node) (bs rest : List BodyLines) (done total : List ℕ)
    → rest ≡ behind (levels_in level (node_view n)) bs
    → done ++ terms_lines code (Some bs) level (nodes_view (n ∷ ns)) ≡ total
    → (done ++ term_lines code (Some bs) level (node_view n)) ++ terms_lines code (Some rest) level (nodes_view ns) ≡ total
table_turn code level n ns bs rest done total e so_far =
    let first = term_lines code (Some bs) level (node_view n) in
    ap (λ (r : List BodyLines). (done ++ first) ++ terms_lines code (Some r) level (nodes_view ns)) e
    ∙ append_assoc done first (terms_lines code (Some (behind (levels_in level (node_view n)) bs)) level (nodes_view ns)) ∙ so_far

-- ---- flags

pub flags_are : (flags : ℕ)
    → flags_text flags ≡ (word ", " ++ decimal (flags % 8)) ++ serialized_text flags ++ (word ", " ++ decimal (flags / 16))
unfolding flags_text
flags_are flags = refl

pub ruleset printing = (straight, flags_are, nodes, tails_with, heads, behind_nodes, behind_tails)
