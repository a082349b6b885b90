-- A term that is told without the span of the terms inside it, and then these: all its pieces.
use Rattle.std.proofs.Common.{◌≡◌, ℕ, Bool, true, false, cond, List, [], ◌∷◌, ◌++◌, Option, Some, None, refl}
use Rattle.std.proofs.Common.{sym, ap, ◌∙◌, subst, append_assoc}
use Rattle.std.specs.Prelude.{is_some}
use Rattle.std.proofs.lemmas.List.{append-nil, append_cancel_right}
use Rattle.aml_code.specs.declared.packages.PkgWidth.{PkgWidth}
use Rattle.aml_code.specs.declared.rows.TailKind.{TailKind}
use Rattle.aml_code.specs.Opcodes.{row_of}
use Rattle.aml_code.specs.Pieces.{Told, deeper, end_of_call, end_of_list, end_of_parts, fields_pieces, items, line_pieces, list}
use Rattle.aml_code.specs.Pieces.{name, part_count, parts_pieces, pieces, tail, tail_pieces}
use Rattle.aml_code.specs.Tree.{Tree, nothing, named, op, Trees, tree_count, Parts, Tail, empty, terms, bytes, elements, fields, body}
use Rattle.aml_load.specs.Opening.{HoldsBack, front_pieces, head_pieces, held_after, held_pieces, span_of, tail_of}
use Rattle.aml_load.specs.Runner.{opens, span_inside, with_terms}
use Rattle.aml_load.specs.declared.opening.Opening.{Opening}

pub some_there : (h : Option (ℕ × ℕ)) → is_some h ≡ true → (x : ℕ × ℕ) × (h ≡ Some x)
some_there (Some x) e = (x, refl)
some_there None e = absurd cc

pub none_there : (h : Option (ℕ × ℕ)) → is_some h ≡ false → h ≡ None
none_there None e = refl
none_there (Some x) e = absurd cc

-- the last one decides
held_last : (h : Option (ℕ × ℕ)) (ps : List Told) (p : Told) → held_after h (ps ++ p ∷ []) ≡ span_of p
held_last h [] p = refl
held_last h (q ∷ ps) p = held_last (span_of q) ps p

spelled : (level o : ℕ) (w : Option PkgWidth) (ps : Parts) (start len : ℕ)
    → pieces level (op o w ps (body start len)) ≡ head_pieces level o w ps ++ tail (body start len) ∷ []
spelled level o w ps start len = simp append_assoc

held_both : (h : Option (ℕ × ℕ)) (ps qs : List Told) → held_after h (ps ++ qs) ≡ held_after (held_after h ps) qs
held_both h [] qs = refl
held_both h (p ∷ ps) qs = held_both (span_of p) ps qs

held_tail : (level o : ℕ) (w : Option PkgWidth) (ps : Parts) (t : Tail)
    → held_after None (tail_pieces level t) ≡ tail_of (op o w ps t)
held_tail level o w ps empty = refl
held_tail level o w ps (bytes bs) = refl
held_tail level o w ps (body start len) = refl
held_tail level o w ps (terms ts) = held_last None (list TailKind.Terms ∷ line_pieces (deeper level) ts) (end_of_list TailKind.Terms level)
held_tail level o w ps (elements ts) = held_last None (list TailKind.Elements ∷ items level ts) (end_of_list TailKind.Elements level)
held_tail level o w ps (fields us) = held_last None (list TailKind.Fields ∷ fields_pieces (deeper level) us) (end_of_list TailKind.Fields level)

-- behind a term its tail is held back, if that is only a span
pub held_is : (level : ℕ) (t : Tree) → held_after None (pieces level t) ≡ tail_of t
held_is level nothing = refl
held_is level (named n ts) = held_last None (name n (tree_count ts) ∷ items level ts) (end_of_call (tree_count ts))
held_is level (op o w ps t) = held_both None (parts_pieces level ps) (end_of_parts (row_of o) (part_count ps) ∷ tail_pieces level t)
    ∙ held_tail level o w ps t

abbrev pub span_by : Bool → ℕ × ℕ → Option (ℕ × ℕ)
span_by b x = cond b (Some x) None

-- ---- a term inside which none stand

front_by : (level o : ℕ) (w : Option PkgWidth) (ps : Parts) (start len : ℕ) (b : Bool) → span_by b (start, len) ≡ None
    → cond b (head_pieces level o w ps) (pieces level (op o w ps (body start len))) ≡ pieces level (op o w ps (body start len))
front_by level o w ps start len false e = refl
front_by level o w ps start len true e = absurd cc

pub front_whole : (level : ℕ) (t : Tree) → span_inside t ≡ None → front_pieces level t ≡ pieces level t
front_whole level (op o w ps (body start len)) e = front_by level o w ps start len (opens o) e
front_whole level _ e = refl

-- ---- a term inside which terms stand

block_by : (level o : ℕ) (w : Option PkgWidth) (ps : Parts) (start len : ℕ) (b : Bool) (x : ℕ × ℕ)
    → span_by b (start, len) ≡ Some x
    → (cond b (head_pieces level o w ps) (pieces level (op o w ps (body start len))) ≡ head_pieces level o w ps) × ((start, len) ≡ x)
block_by level o w ps start len true x e = let same : (start, len) ≡ x = cc in (refl, same)
block_by level o w ps start len false x e = absurd cc

-- its front, and behind it the span
pub front_then_span : (level : ℕ) (t : Tree) (x : ℕ × ℕ) → span_inside t ≡ Some x
    → pieces level t ≡ front_pieces level t ++ tail (body x.0 x.1) ∷ []
front_then_span level (op o w ps (body start len)) x e =
    let b = block_by level o w ps start len (opens o) x e in
    spelled level o w ps start len ∙ ap (λ xs. xs ++ tail (body start len) ∷ []) (sym b.0)
    ∙ ap (λ (y : ℕ × ℕ). front_pieces level (op o w ps (body start len)) ++ tail (body y.0 y.1) ∷ []) b.1
front_then_span level _ x e = absurd cc

-- or the terms
pub front_then_terms : (level : ℕ) (t : Tree) (x : ℕ × ℕ) (ts : Trees) → span_inside t ≡ Some x
    → pieces level (with_terms t ts) ≡ front_pieces level t ++ tail_pieces level (terms ts)
front_then_terms level (op o w ps (body start len)) x ts e =
    let b = block_by level o w ps start len (opens o) x e in
    let all : pieces level (op o w ps (terms ts)) ≡ head_pieces level o w ps ++ tail_pieces level (terms ts) = simp append_assoc in
    all ∙ ap (λ xs. xs ++ tail_pieces level (terms ts)) (sym b.0)
front_then_terms level _ x ts e = absurd cc

-- ---- what a sink was told that holds back a span

module _ {S : Type 0} (grew : S → S → List Told → Type 0) (a b : Opening S) (level : ℕ) (t : Tree)
    (none : a.held ≡ None) (told : HoldsBack grew a b (pieces level t)) where
  pub holds : b.held ≡ tail_of t
  holds = told.held ∙ ap (λ h. held_after h (pieces level t)) none ∙ held_is level t

  handed : (h : Option (ℕ × ℕ)) → b.held ≡ h → pieces level t ≡ told.told ++ held_pieces h
  handed h is = subst (λ x. held_pieces x ++ pieces level t ≡ told.told ++ held_pieces b.held) none told.all
      ∙ ap (λ x. told.told ++ held_pieces x) is

  -- of a term inside which terms may stand: its span isn't handed on
  pub told_block : span_inside t ≡ tail_of t → grew a.sink.now b.sink.now (front_pieces level t)
  told_block inside = by (tail_of t) refl
    where
      by : (x : Option (ℕ × ℕ)) → tail_of t ≡ x → grew a.sink.now b.sink.now (front_pieces level t)
      by (Some x) e =
          let all : told.told ++ tail (body x.0 x.1) ∷ [] ≡ front_pieces level t ++ tail (body x.0 x.1) ∷ [] =
          sym (handed (Some x) (holds ∙ e)) ∙ front_then_span level t x (inside ∙ e) in
          subst (grew a.sink.now b.sink.now) (append_cancel_right told.told (front_pieces level t) (tail (body x.0 x.1) ∷ []) all) told.grown
      by None e =
          subst (grew a.sink.now b.sink.now) (sym (append-nil told.told) ∙ sym (handed None (holds ∙ e)) ∙ sym (front_whole level t (inside ∙ e))) told.grown

  -- of another, whose span is
  pub told_whole : ((a b c : S) (ps qs : List Told) → grew a b ps → grew b c qs → grew a c (ps ++ qs)) → (c : S)
      → span_inside t ≡ None → grew b.sink.now c (held_pieces b.held) → grew a.sink.now c (front_pieces level t)
  told_whole further c e rest =
      subst (grew a.sink.now c) (sym (handed b.held refl) ∙ sym (front_whole level t e))
      (further a.sink.now b.sink.now c told.told (held_pieces b.held) told.grown rest)
