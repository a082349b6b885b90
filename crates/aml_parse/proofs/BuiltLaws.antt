-- The pieces of terms build these terms.
use Rattle.aml_parse.proofs.Common.{◌≡◌, ℕ, List, [], ◌∷◌, ◌++◌, Option, Some, refl, sym, ap, ◌∙◌, append_assoc}
use Rattle.aml_parse.proofs.Common.{append-nil, PkgWidth, TailKind, Tree, nothing, named, op, child, Parts, no_parts}
use Rattle.aml_parse.proofs.Common.{part_more, Part, label, byte, word, dword, qword, text, Trees, no_trees, tree_more}
use Rattle.aml_parse.proofs.Common.{Tail, empty, terms, elements, fields, body, Field, unit, reserved, access, connection}
use Rattle.aml_parse.proofs.Common.{extended, target, buffer, Fields, no_fields, field_more, tree_count, subst}
use Rattle.std.proofs.lemmas.List.{map-append, reverse-append}
use Rattle.aml_code.specs.Tree.{bytes}
use Rattle.aml_code.specs.View.{trees_of, parts_from, fields_from, node_view, nodes_view}
use Rattle.aml_code.specs.Pieces.{Told, end_of_line, end_of_call, end_of_parts, end_of_list, end_of_link}
use Rattle.aml_code.specs.Pieces.{pieces, items, more_items, part_pieces, parts_pieces, more_parts, tail_pieces}
use Rattle.aml_code.specs.Pieces.{line_pieces, fields_pieces, field_pieces, deeper, part_count}
use Rattle.aml_code.specs.Opcodes.{row_of}
use Rattle.aml_parse.specs.Built.{Frame, lines, call, parts, inside, units, State, with_tree, built, StandsAs, Grew}
use Rattle.aml_parse.specs.Built.{state_of}
use Rattle.aml_parse.specs.declared.builder.Builder.{Builder}
use Rattle.aml_code.specs.declared.tree.Node.{Node, the_lemmas}
use Rattle.std.specs.Prelude.{map}

-- ---- lists of what a tree has

abbrev pub tree_list : Trees → List Tree
tree_list no_trees = []
tree_list (tree_more t ts) = t ∷ tree_list ts

abbrev pub part_list : Parts → List Part
part_list no_parts = []
part_list (part_more p ps) = p ∷ part_list ps

abbrev pub field_list : Fields → List Field
field_list no_fields = []
field_list (field_more u us) = u ∷ field_list us

pub trees_listed : (ts : Trees) → trees_of (tree_list ts) ≡ ts
trees_listed no_trees = refl
trees_listed (tree_more t ts) = ap (tree_more t) (trees_listed ts)

pub parts_listed : (ps : Parts) → parts_from (part_list ps) ≡ ps
parts_listed no_parts = refl
parts_listed (part_more p ps) = ap (part_more p) (parts_listed ps)

pub fields_listed : (us : Fields) → fields_from (field_list us) ≡ us
fields_listed no_fields = refl
fields_listed (field_more u us) = ap (field_more u) (fields_listed us)

-- ---- terms one after the other

abbrev with_trees : Frame → Trees → Frame
with_trees f no_trees = f
with_trees f (tree_more t ts) = with_trees (with_tree f t) ts

module _ (holds : List Tree → Frame)
    (adds : (ts : List Tree) (t : Tree) → with_tree (holds ts) t ≡ holds (ts ++ t ∷ [])) where
  with_all : (front : List Tree) (ts : Trees) → with_trees (holds front) ts ≡ holds (front ++ tree_list ts)
  with_all front no_trees = ap holds (sym (append-nil front))
  with_all front (tree_more t ts) =
      ap (λ f. with_trees f ts) (adds front t) ∙ with_all (front ++ t ∷ []) ts
      ∙ ap holds (append_assoc front (t ∷ []) (tree_list ts))

-- ---- what each makes

abbrev at : List Told → Frame → List Frame → Option State
at ps f fs = built ps (Some (f, fs))

mutual
  pub built_term : (level : ℕ) (t : Tree) (qs : List Told) (f : Frame) (fs : List Frame)
      → built (pieces level t ++ qs) (Some (f, fs)) ≡ built qs (Some (with_tree f t, fs))
  built_term level nothing qs f fs = refl
  built_term level (named n ts) qs f fs =
      ap (λ xs. at xs (call n []) (f ∷ fs)) (append_assoc (items level ts) (end_of_call (tree_count ts) ∷ []) qs)
      ∙ built_items level ts (end_of_call (tree_count ts) ∷ qs) (call n []) (f ∷ fs)
      ∙ ap (λ x. at (end_of_call (tree_count ts) ∷ qs) x (f ∷ fs)) (with_all (call n) (λ us t. refl) [] ts)
      ∙ ap (λ us. at qs (with_tree f (named n us)) fs) (trees_listed ts)
  built_term level (op o w ps t) qs f fs =
      ap (λ xs. at xs (parts o w []) (f ∷ fs))
      (append_assoc (parts_pieces level ps) (end_of_parts (row_of o) (part_count ps) ∷ tail_pieces level t) qs)
      ∙ built_parts level ps (end_of_parts (row_of o) (part_count ps) ∷ (tail_pieces level t ++ qs)) o w [] (f ∷ fs)
      ∙ built_tail level t qs o w (part_list ps) f fs
      ∙ ap (λ us. at qs (with_tree f (op o w us t)) fs) (parts_listed ps)

  built_items : (level : ℕ) (ts : Trees) (qs : List Told) (f : Frame) (fs : List Frame)
      → built (items level ts ++ qs) (Some (f, fs)) ≡ built qs (Some (with_trees f ts, fs))
  built_items level no_trees qs f fs = refl
  built_items level (tree_more t ts) qs f fs =
      ap (λ xs. at xs f fs) (append_assoc (pieces level t) (more_items level ts) qs)
      ∙ built_term level t (more_items level ts ++ qs) f fs
      ∙ built_more_items level ts qs (with_tree f t) fs

  built_more_items : (level : ℕ) (ts : Trees) (qs : List Told) (f : Frame) (fs : List Frame)
      → built (more_items level ts ++ qs) (Some (f, fs)) ≡ built qs (Some (with_trees f ts, fs))
  built_more_items level no_trees qs f fs = refl
  built_more_items level (tree_more t ts) qs f fs =
      ap (λ xs. at xs f fs) (append_assoc (pieces level t) (more_items level ts) qs)
      ∙ built_term level t (more_items level ts ++ qs) f fs
      ∙ built_more_items level ts qs (with_tree f t) fs

  built_lines : (level : ℕ) (ts : Trees) (qs : List Told) (f : Frame) (fs : List Frame)
      → built (line_pieces level ts ++ qs) (Some (f, fs)) ≡ built qs (Some (with_trees f ts, fs))
  built_lines level no_trees qs f fs = refl
  built_lines level (tree_more t ts) qs f fs =
      ap (λ xs. at xs f fs) (append_assoc (pieces level t) (end_of_line ∷ line_pieces level ts) qs)
      ∙ built_term level t (end_of_line ∷ (line_pieces level ts ++ qs)) f fs
      ∙ built_lines level ts qs (with_tree f t) fs

  built_part : (level : ℕ) (p : Part) (qs : List Told) (o : ℕ) (w : Option PkgWidth) (front : List Part) (fs : List Frame)
      → built (part_pieces level p ++ qs) (Some (parts o w front, fs)) ≡ built qs (Some (parts o w (front ++ p ∷ []), fs))
  built_part level (child t) qs o w front fs = built_term level t qs (parts o w front) fs
  built_part level (label n) qs o w front fs = refl
  built_part level (byte n) qs o w front fs = refl
  built_part level (word n) qs o w front fs = refl
  built_part level (dword n) qs o w front fs = refl
  built_part level (qword n) qs o w front fs = refl
  built_part level (text s) qs o w front fs = refl

  built_parts : (level : ℕ) (ps : Parts) (qs : List Told) (o : ℕ) (w : Option PkgWidth) (front : List Part) (fs : List Frame)
      → built (parts_pieces level ps ++ qs) (Some (parts o w front, fs))
      ≡ built qs (Some (parts o w (front ++ part_list ps), fs))
  built_parts level no_parts qs o w front fs = ap (λ xs. at qs (parts o w xs) fs) (sym (append-nil front))
  built_parts level (part_more p ps) qs o w front fs =
      ap (λ xs. at xs (parts o w front) fs) (append_assoc (part_pieces level p) (more_parts level ps) qs)
      ∙ built_part level p (more_parts level ps ++ qs) o w front fs
      ∙ built_more_parts level ps qs o w (front ++ p ∷ []) fs
      ∙ ap (λ xs. at qs (parts o w xs) fs) (append_assoc front (p ∷ []) (part_list ps))

  built_more_parts : (level : ℕ) (ps : Parts) (qs : List Told) (o : ℕ) (w : Option PkgWidth) (front : List Part) (fs : List Frame)
      → built (more_parts level ps ++ qs) (Some (parts o w front, fs))
      ≡ built qs (Some (parts o w (front ++ part_list ps), fs))
  built_more_parts level no_parts qs o w front fs = ap (λ xs. at qs (parts o w xs) fs) (sym (append-nil front))
  built_more_parts level (part_more p ps) qs o w front fs =
      ap (λ xs. at xs (parts o w front) fs) (append_assoc (part_pieces level p) (more_parts level ps) qs)
      ∙ built_part level p (more_parts level ps ++ qs) o w front fs
      ∙ built_more_parts level ps qs o w (front ++ p ∷ []) fs
      ∙ ap (λ xs. at qs (parts o w xs) fs) (append_assoc front (p ∷ []) (part_list ps))

  built_tail : (level : ℕ) (t : Tail) (qs : List Told) (o : ℕ) (w : Option PkgWidth) (ps : List Part) (f : Frame) (fs : List Frame)
      → built (tail_pieces level t ++ qs) (Some (parts o w ps, f ∷ fs))
      ≡ built qs (Some (with_tree f (op o w (parts_from ps) t), fs))
  built_tail level empty qs o w ps f fs = refl
  built_tail level (bytes bs) qs o w ps f fs = refl
  built_tail level (body start len) qs o w ps f fs = refl
  built_tail level (terms ts) qs o w ps f fs =
      ap (λ xs. at xs (inside o w (parts_from ps) []) (f ∷ fs))
      (append_assoc (line_pieces (deeper level) ts) (end_of_list TailKind.Terms level ∷ []) qs)
      ∙ built_lines (deeper level) ts (end_of_list TailKind.Terms level ∷ qs) (inside o w (parts_from ps) []) (f ∷ fs)
      ∙ ap (λ x. at (end_of_list TailKind.Terms level ∷ qs) x (f ∷ fs)) (with_all (inside o w (parts_from ps)) (λ us t. refl) [] ts)
      ∙ ap (λ us. at qs (with_tree f (op o w (parts_from ps) (terms us))) fs) (trees_listed ts)
  built_tail level (elements ts) qs o w ps f fs =
      ap (λ xs. at xs (inside o w (parts_from ps) []) (f ∷ fs))
      (append_assoc (items level ts) (end_of_list TailKind.Elements level ∷ []) qs)
      ∙ built_items level ts (end_of_list TailKind.Elements level ∷ qs) (inside o w (parts_from ps) []) (f ∷ fs)
      ∙ ap (λ x. at (end_of_list TailKind.Elements level ∷ qs) x (f ∷ fs)) (with_all (inside o w (parts_from ps)) (λ us t. refl) [] ts)
      ∙ ap (λ us. at qs (with_tree f (op o w (parts_from ps) (elements us))) fs) (trees_listed ts)
  built_tail level (fields us) qs o w ps f fs =
      ap (λ xs. at xs (units o w (parts_from ps) []) (f ∷ fs))
      (append_assoc (fields_pieces (deeper level) us) (end_of_list TailKind.Fields level ∷ []) qs)
      ∙ built_fields (deeper level) us (end_of_list TailKind.Fields level ∷ qs) o w (parts_from ps) [] (f ∷ fs)
      ∙ ap (λ xs. at qs (with_tree f (op o w (parts_from ps) (fields xs))) fs) (fields_listed us)

  built_fields : (level : ℕ) (us : Fields) (qs : List Told) (o : ℕ) (w : Option PkgWidth) (ps : Parts) (front : List Field) (fs : List Frame)
      → built (fields_pieces level us ++ qs) (Some (units o w ps front, fs))
      ≡ built qs (Some (units o w ps (front ++ field_list us), fs))
  built_fields level no_fields qs o w ps front fs = ap (λ xs. at qs (units o w ps xs) fs) (sym (append-nil front))
  built_fields level (field_more u us) qs o w ps front fs =
      ap (λ xs. at xs (units o w ps front) fs) (append_assoc (field_pieces level u) (end_of_line ∷ fields_pieces level us) qs)
      ∙ built_field level u (end_of_line ∷ (fields_pieces level us ++ qs)) o w ps front fs
      ∙ built_fields level us qs o w ps (front ++ u ∷ []) fs
      ∙ ap (λ xs. at qs (units o w ps xs) fs) (append_assoc front (u ∷ []) (field_list us))

  built_field : (level : ℕ) (u : Field) (qs : List Told) (o : ℕ) (w : Option PkgWidth) (ps : Parts) (front : List Field) (fs : List Frame)
      → built (field_pieces level u ++ qs) (Some (units o w ps front, fs)) ≡ built qs (Some (units o w ps (front ++ u ∷ []), fs))
  built_field level (unit s w n) qs o v ps front fs = refl
  built_field level (reserved w n) qs o v ps front fs = refl
  built_field level (access a b) qs o v ps front fs = refl
  built_field level (extended a b c) qs o v ps front fs = refl
  built_field level (connection (target n)) qs o v ps front fs = refl
  built_field level (connection (buffer t)) qs o v ps front fs =
      ap (λ xs. at xs (units o v ps front) fs) (append_assoc (pieces level t) (end_of_link ∷ []) qs)
      ∙ built_term level t (end_of_link ∷ qs) (units o v ps front) fs

-- ---- by a builder that was told nothing before

module _ (level : ℕ) (b c : Builder) (new : state_of b ≡ (lines [], [])) where
  standing : (ps : List Told) (s : Option State) → built ps (Some (lines [], [])) ≡ s → Grew b c ps → StandsAs c s
  standing ps s is grew = subst (StandsAs c) is (subst (λ x. StandsAs c (built ps (Some x))) new grew)

  pub nodes_built : (ts : Trees) (ns : List Node) → Grew b c (line_pieces level ts)
      → ((us : List Tree) → (state_of c).0 ≡ lines us → map node_view ns ≡ us) → nodes_view ns ≡ ts
  nodes_built ts ns grew are =
      let built_is =
      ap (λ xs. built xs (Some (lines [], []))) (sym (append-nil (line_pieces level ts)))
      ∙ built_lines level ts [] (lines []) []
      ∙ ap (λ x. Some (x, [])) (with_all lines (λ us t. refl) [] ts) in
      let stands = standing (line_pieces level ts) _ built_is grew in
      ap trees_of (are (tree_list ts) (ap (λ (s : State). s.0) stands)) ∙ trees_listed ts

  pub node_built : (t : Tree) → Grew b c (pieces level t) → (state_of c).0 ≡ lines (t ∷ [])
  node_built t grew =
      let built_is = ap (λ xs. built xs (Some (lines [], []))) (sym (append-nil (pieces level t))) ∙ built_term level t [] (lines []) [] in
      ap (λ (s : State). s.0) (standing (pieces level t) _ built_is grew)

-- ---- what the code's values are seen as

pub ruleset building = (the_lemmas, map-append, reverse-append)
