-- Terms have the same lines with all bodies that print the same at their levels.
use Rattle.asl_text.proofs.Common.{◌≡◌, ℕ, Some, List, [], ◌∷◌, ◌++◌, append_assoc, refl, ap, subst, head_of}
use Rattle.asl_text.proofs.Common.{method_head, deeper, block, BodyLines, first_lines, levels_in, tail_levels}
use Rattle.asl_text.proofs.Common.{all_levels, behind, term_lines, op_lines, terms_lines}
use Rattle.aml_code.specs.Tree.{slice_of, Tree, op, Trees, no_trees, tree_more, Parts, Tail, terms, body}

-- bodies print the same lines at these levels
abbrev pub AgreeAt : List ℕ → List BodyLines → List BodyLines → Type 0
AgreeAt [] fs gs = Unit {0}
AgreeAt (l ∷ ls) [] [] = AgreeAt ls [] []
AgreeAt (l ∷ ls) [] (g ∷ gs) = ⊥
AgreeAt (l ∷ ls) (f ∷ fs) [] = ⊥
AgreeAt (l ∷ ls) (f ∷ fs) (g ∷ gs) = ((bytes : List ℕ) → f l bytes ≡ g l bytes) × AgreeAt ls fs gs

first_agrees : (l : ℕ) (more : List ℕ) (fs gs : List BodyLines) (bs : List ℕ) → AgreeAt (l ∷ more) fs gs
    → first_lines fs l bs ≡ first_lines gs l bs
first_agrees l more [] [] bs a = refl
first_agrees l more [] (g ∷ gs) bs a = absurd a
first_agrees l more (f ∷ fs) [] bs a = absurd a
first_agrees l more (f ∷ fs) (g ∷ gs) bs a = a.0 bs

none_agree : (ls : List ℕ) → AgreeAt ls [] []
none_agree [] = tt
none_agree (l ∷ ls) = none_agree ls

pub behind_agree : (ls more : List ℕ) (fs gs : List BodyLines) → AgreeAt (ls ++ more) fs gs
    → AgreeAt more (behind ls fs) (behind ls gs)
behind_agree [] more fs gs a = a
behind_agree (l ∷ ls) more [] [] a = none_agree more
behind_agree (l ∷ ls) more [] (g ∷ gs) a = absurd a
behind_agree (l ∷ ls) more (f ∷ fs) [] a = absurd a
behind_agree (l ∷ ls) more (f ∷ fs) (g ∷ gs) a = behind_agree ls more fs gs a.1

mutual
  same_term : (code : List ℕ) (level : ℕ) (t : Tree) (more : List ℕ) (fs gs : List BodyLines)
      → AgreeAt (levels_in level t ++ more) fs gs
      → term_lines code (Some fs) level t ≡ term_lines code (Some gs) level t
  same_term code level (op o w ps r) more fs gs a = same_tail code level o ps r more fs gs a
  same_term code level _ more fs gs a = refl

  same_tail : (code : List ℕ) (level o : ℕ) (ps : Parts) (r : Tail) (more : List ℕ) (fs gs : List BodyLines)
      → AgreeAt (tail_levels (deeper level) r ++ more) fs gs
      → op_lines code (Some fs) level o ps r ≡ op_lines code (Some gs) level o ps r
  same_tail code level o ps (terms ts) more fs gs a = ap (block level (head_of o ps)) (same_all code (deeper level) ts more fs gs a)
  same_tail code level o ps (body start len) more fs gs a =
      ap (block level (method_head o ps)) (first_agrees (deeper level) more fs gs (slice_of code start len) a)
  same_tail code level o ps _ more fs gs a = refl

  pub same_all : (code : List ℕ) (level : ℕ) (ts : Trees) (more : List ℕ) (fs gs : List BodyLines)
      → AgreeAt (all_levels level ts ++ more) fs gs
      → terms_lines code (Some fs) level ts ≡ terms_lines code (Some gs) level ts
  same_all code level no_trees more fs gs a = refl
  same_all code level (tree_more t ts) more fs gs a =
      let b = subst (λ (ls : List ℕ). AgreeAt ls fs gs) (append_assoc (levels_in level t) (all_levels level ts) more) a in
      let first = same_term code level t (all_levels level ts ++ more) fs gs b in
      let rest = same_all code level ts more (behind (levels_in level t) fs) (behind (levels_in level t) gs)
      (behind_agree (levels_in level t) (all_levels level ts ++ more) fs gs b) in
      λ i. first i ++ rest i
