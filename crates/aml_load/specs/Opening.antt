-- A stepping stone: a term that is told without the span in which the terms inside it stand.
use Rattle.std.proofs.Common.{◌≡◌, ℕ, List, [], ◌∷◌, ◌++◌, cond, Option, Some, None, refl, sym, ap, ◌∙◌, append_assoc}
use Rattle.std.proofs.lemmas.List.{append-nil}
use Rattle.aml_code.specs.declared.packages.PkgWidth.{PkgWidth}
use Rattle.aml_code.specs.Opcodes.{row_of}
use Rattle.aml_code.specs.Pieces.{Told, opcode, end_of_parts, tail, pieces, parts_pieces, part_count}
use Rattle.aml_code.specs.Tree.{Tree, op, body, Parts}
use Rattle.aml_load.specs.Runner.{opens}
use Rattle.aml_load.specs.declared.opening.Opening.{Opening}

-- the span of a piece that is a tail with nothing else
abbrev pub span_of : Told → Option (ℕ × ℕ)
span_of (tail (body start len)) = Some (start, len)
span_of _ = None

-- the span of a term's tail, if that is only a span
abbrev pub tail_of : Tree → Option (ℕ × ℕ)
tail_of (op o w ps (body start len)) = Some (start, len)
tail_of _ = None

-- what is held back
abbrev pub held_pieces : Option (ℕ × ℕ) → List Told
held_pieces None = []
held_pieces (Some x) = tail (body x.0 x.1) ∷ []

abbrev pub held_after : Option (ℕ × ℕ) → List Told → Option (ℕ × ℕ)
held_after h [] = h
held_after h (p ∷ ps) = held_after (span_of p) ps

-- an opcode and its parts
abbrev pub head_pieces : ℕ → ℕ → Option PkgWidth → Parts → List Told
head_pieces level o w ps =
    opcode o (row_of o) w (part_count ps) ∷ (parts_pieces level ps ++ end_of_parts (row_of o) (part_count ps) ∷ [])

-- the pieces of a term but for the span in which the terms inside it stand
abbrev pub front_pieces : ℕ → Tree → List Told
front_pieces level (op o w ps (body start len)) =
    cond (opens o) (head_pieces level o w ps) (pieces level (op o w ps (body start len)))
front_pieces level t = pieces level t

-- what was told was handed on to the same sink, but for what is held back
pub record HoldsBack {S : Type 0} (grew : S → S → List Told → Type 0) (a b : Opening S) (ps : List Told) : Type 0 where
  pub same : b.sink.ghost_name ≡ a.sink.ghost_name
  pub held : b.held ≡ held_after a.held ps
  pub told : List Told
  pub all : held_pieces a.held ++ ps ≡ told ++ held_pieces b.held
  pub grown : grew a.sink.now b.sink.now told

abbrev Further : {S : Type 0} → (S → S → List Told → Type 0) → Type 0
Further {S = S} grew = (a b c : S) (ps qs : List Told) → grew a b ps → grew b c qs → grew a c (ps ++ qs)

held_both : (h : Option (ℕ × ℕ)) (ps qs : List Told) → held_after h (ps ++ qs) ≡ held_after (held_after h ps) qs
held_both h [] qs = refl
held_both h (p ∷ ps) qs = held_both (span_of p) ps qs

module _ {S : Type 0} (grew : S → S → List Told → Type 0) where
  pub holds_none : ((s : S) → grew s s []) → (a : Opening S) → HoldsBack grew a a []
  holds_none nothing a = record {
    same = refl;
    held = refl;
    told = [];
    all = append-nil (held_pieces a.held);
    grown = nothing a.sink.now;
  }

  pub holds_further : Further grew → (a b c : Opening S) (ps qs : List Told) → HoldsBack grew a b ps → HoldsBack grew b c qs
      → HoldsBack grew a c (ps ++ qs)
  holds_further further a b c ps qs g h = record {
    same = h.same ∙ g.same;
    held = h.held ∙ ap (λ x. held_after x qs) g.held ∙ sym (held_both a.held ps qs);
    told = g.told ++ h.told;
    all = sym (append_assoc (held_pieces a.held) ps qs) ∙ ap (λ xs. xs ++ qs) g.all
        ∙ append_assoc g.told (held_pieces b.held) qs ∙ ap (λ xs. g.told ++ xs) h.all
        ∙ sym (append_assoc g.told h.told (held_pieces c.held));
    grown = further a.sink.now b.sink.now c.sink.now g.told h.told g.grown h.grown;
  }
