-- Pieces that make the same text in a table as in a body: all but those of methods.
use Rattle.std.proofs.Common.{◌≡◌, ℕ, zero, suc, Bool, true, false, not, ◌&&◌, List, [], ◌∷◌, ◌++◌, flat_map}
use Rattle.std.proofs.Common.{Option, Some, refl, sym, ap, subst, ◌∙◌, append-nil, append_assoc}
use Rattle.std.specs.List.{fold, list_all}
use Rattle.std.proofs.lemmas.List.Folds.{list_all-append}
use Rattle.aml_names.specs.Paths.{PathSet}
use Rattle.aml_code.specs.declared.packages.PkgWidth.{PkgWidth}
use Rattle.aml_code.specs.declared.rows.PartKind.{PartKind}
use Rattle.aml_code.specs.declared.rows.PartKind.TheVariants as kinds
use Rattle.aml_code.specs.declared.rows.Position.{Position}
use Rattle.aml_code.specs.declared.rows.Position.TheVariants as positions
use Rattle.aml_code.specs.declared.rows.TailKind.{TailKind}
use Rattle.aml_code.specs.declared.rows.TailKind.TheVariants as tails
use Rattle.aml_code.specs.Opcodes.{Row, rows, row_of, takes}
use Rattle.aml_code.specs.Tree.{Tree, nothing, named, op, Trees, no_trees, tree_more, tree_count, Part, child, Parts}
use Rattle.aml_code.specs.Tree.{no_parts, part_more, Tail, terms, elements, fields, body, Field, connection, Fields}
use Rattle.aml_code.specs.Tree.{no_fields, field_more, Link, target, buffer}
use Rattle.aml_code.specs.Lawful.{Setting, IsLawful, AreTerms, IsTail, IsPart, AreParts, AreFields, after}
use Rattle.aml_code.specs.Lawful.{next_position, terms_in}
use Rattle.aml_code.specs.Pieces.{Told, opcode, tail, line, deeper, part_count, pieces, items, more_items}
use Rattle.aml_code.specs.Pieces.{part_pieces, parts_pieces, more_parts, tail_pieces, fields_pieces, field_pieces}
use Rattle.aml_code.specs.Pieces.{link_pieces, end_of_call, end_of_parts, end_of_list, end_of_line, end_of_link}
use Rattle.aml_code.proofs.InnerLaws.{is_inner, inner_next}
use Rattle.aml_code.proofs.RowFacts.{rows_say, and_left, and_right, not_true}
use Rattle.aml_code.proofs.Takers.{taker_takes}
use Rattle.asl_text.proofs.PieceLaws.{is_flat, inner_tail, inner_flat, no_terms, no_fields_there, tail_elements, tail_fields}
use Rattle.asl_text.specs.Pieces.{piece_text}
use Rattle.asl_text.specs.Tables.{Made, grown, has_body, is_method, made_text}

-- a piece of no method
abbrev pub is_plain : Told → Bool
is_plain (opcode o row w n) = not (is_method row)
is_plain (tail (body start len)) = false
is_plain _ = true

abbrev pub ArePlain : List Told → Type 0
ArePlain ps = list_all is_plain ps ≡ true

pub both_plain : (ps qs : List Told) → ArePlain ps → ArePlain qs → ArePlain (ps ++ qs)
both_plain ps qs e f = list_all-append is_plain ps qs ∙ ap (λ (b : Bool). b && list_all is_plain qs) e ∙ f

-- pieces, and one more
pub plain_then : (ps : List Told) (q : Told) → is_plain q ≡ true → ArePlain ps → ArePlain (ps ++ q ∷ [])
plain_then ps q e f = both_plain ps (q ∷ []) f (ap (λ (b : Bool). b && true) e)

-- ---- what they make

-- so much more text, and nothing else
pub record Extends (m n : Made) (more : List ℕ) : Type 0 where
  pub text : n.text ≡ m.text ++ more
  pub places : n.places ≡ m.places
  pub outside : n.in_method ≡ false

extends_by : (m : Made) (p : Told) → m.in_method ≡ false → m.text ++ made_text m.in_method p ≡ m.text ++ made_text false p
extends_by m p e = ap (λ (b : Bool). m.text ++ made_text b p) e

plain_tail : (m : Made) (t : Tail) → is_plain (tail t) ≡ true → m.in_method ≡ false
    → Extends m (grown m (tail t)) (piece_text (tail t))
plain_tail m (body start len) e out = absurd cc
plain_tail m t e out = record { text = extends_by m (tail t) out; places = refl; outside = out }

plain_piece : (m : Made) (p : Told) → is_plain p ≡ true → m.in_method ≡ false → Extends m (grown m p) (piece_text p)
plain_piece m (line level) e out = record { text = refl; places = refl; outside = out }
plain_piece m (opcode o row w n) e out = record { text = refl; places = refl; outside = not_true (is_method row) e }
plain_piece m (tail t) e out = plain_tail m t e out
plain_piece m p e out = record { text = extends_by m p out; places = refl; outside = out }

pub plain_pieces : (m : Made) (ps : List Told) → ArePlain ps → m.in_method ≡ false
    → Extends m (fold grown m ps) (flat_map piece_text ps)
plain_pieces m [] e out = record { text = sym (append-nil m.text); places = refl; outside = out }
plain_pieces m (p ∷ ps) e out =
    let one = plain_piece m p (and_left (is_plain p) (list_all is_plain ps) e) out in
    let rest = plain_pieces (grown m p) ps (and_right (is_plain p) (list_all is_plain ps) e) one.outside in
    record {
      text = rest.text ∙ ap (λ l. l ++ flat_map piece_text ps) one.text ∙ append_assoc m.text (piece_text p) (flat_map piece_text ps);
      places = rest.places ∙ one.places;
      outside = rest.outside;
    }

-- ---- what stands in a line is plain

bodiless : (p : Position) (o : ℕ) (r : Row) → is_inner p ≡ true → row_of o ≡ Some r → takes p r.place ≡ true
    → not (has_body r.tail) ≡ true
unfolding rows
bodiless positions.Argument o r i e taken =
    rows_say (λ r. takes positions.Argument r.place) (λ r. not (has_body r.tail)) refl o r e taken
bodiless positions.Target o r i e taken =
    rows_say (λ r. takes positions.Target r.place) (λ r. not (has_body r.tail)) refl o r e taken
bodiless positions.Data o r i e taken =
    rows_say (λ r. takes positions.Data r.place) (λ r. not (has_body r.tail)) refl o r e taken
bodiless _ o r i e taken = absurd cc

-- an opcode with its parts, and what follows
pub plain_op : (level o : ℕ) (w : Option PkgWidth) (ps : Parts) (row : Option Row) (qs : List Told)
    → not (is_method row) ≡ true → ArePlain (parts_pieces level ps) → ArePlain qs
    → ArePlain (opcode o row w (part_count ps) ∷ (parts_pieces level ps ++ end_of_parts row (part_count ps) ∷ qs))
plain_op level o w ps row qs e f g =
    let behind = end_of_parts row (part_count ps) ∷ qs in
    ap (λ (b : Bool). b && list_all is_plain (parts_pieces level ps ++ behind)) e
    ∙ both_plain (parts_pieces level ps) behind f g

module _ (s : Setting) (levels : ℕ) where
  no_body : (p : Position) (k : Option TailKind) (ls : PathSet) (start len : ℕ) → not (has_body k) ≡ true
      → IsTail s (IsLawful s levels) p k ls (body start len) → ⊥
  no_body p (Some tails.Body) ls start len f h = absurd cc
  no_body p _ ls start len f h = absurd h

mutual
  plain_inner : (s : Setting) (levels : ℕ) (p : Position) (ls : PathSet) (level : ℕ) (t : Tree) → is_inner p ≡ true
      → IsLawful s levels p ls t → ArePlain (pieces level t)
  plain_inner s zero p ls level t i h = absurd h
  plain_inner s (suc levels) p ls level nothing i h = refl
  plain_inner s (suc levels) p ls level (named n ts) i h =
      plain_then (items level ts) (end_of_call (tree_count ts)) refl
      (plain_items s levels positions.Argument ls level ts refl h.3)
  plain_inner s (suc levels) p ls level (op o w ps t) i h =
      let taken = taker_takes p h.row.place h.taken in
      let none = bodiless p o h.row i h.listed taken in
      let row : not (is_method (row_of o)) ≡ true = ap (λ (r : Option Row). not (is_method r)) h.listed ∙ none in
      let kept = subst (λ (k : Option TailKind). IsTail s (IsLawful s levels) (terms_in p h.row.place) k ls t)
      (inner_tail p h.row.tail i) h.tail in
      let behind = plain_inner_tail s levels _ h.row.tail ls level t (inner_flat p o h.row i h.listed taken) none kept in
      plain_op level o w ps (row_of o) (tail_pieces level t) row (plain_parts s levels ls level h.row.parts ps h.parts) behind

  pub plain_items : (s : Setting) (levels : ℕ) (p : Position) (ls : PathSet) (level : ℕ) (ts : Trees) → is_inner p ≡ true
      → AreTerms s levels p ls ts → ArePlain (items level ts)
  plain_items s levels p ls level no_trees i h = refl
  plain_items s levels p ls level (tree_more t ts) i h =
      both_plain (pieces level t) (more_items level ts) (plain_inner s levels p ls level t i h.0)
      (plain_more s levels (next_position p t) (after s.scope ls t) level ts (inner_next p t i) h.1)

  plain_more : (s : Setting) (levels : ℕ) (p : Position) (ls : PathSet) (level : ℕ) (ts : Trees) → is_inner p ≡ true
      → AreTerms s levels p ls ts → ArePlain (more_items level ts)
  plain_more s levels p ls level no_trees i h = refl
  plain_more s levels p ls level (tree_more t ts) i h =
      both_plain (pieces level t) (more_items level ts) (plain_inner s levels p ls level t i h.0)
      (plain_more s levels (next_position p t) (after s.scope ls t) level ts (inner_next p t i) h.1)

  plain_part : (s : Setting) (levels : ℕ) (ls : PathSet) (level : ℕ) (k : PartKind) (p : Part)
      → IsPart (λ q. IsLawful s levels q ls) k p → ArePlain (part_pieces level p)
  plain_part s levels ls level kinds.Term (child t) h = plain_inner s levels positions.Argument ls level t refl h
  plain_part s levels ls level kinds.Target (child t) h = plain_inner s levels positions.Target ls level t refl h
  plain_part s levels ls level kinds.Data (child t) h = plain_inner s levels positions.Data ls level t refl h
  plain_part s levels ls level _ (child t) h = absurd h
  plain_part s levels ls level k _ h = refl

  pub plain_parts : (s : Setting) (levels : ℕ) (ls : PathSet) (level : ℕ) (ks : List PartKind) (ps : Parts)
      → AreParts (λ q. IsLawful s levels q ls) ks ps → ArePlain (parts_pieces level ps)
  plain_parts s levels ls level ks no_parts h = refl
  plain_parts s levels ls level [] (part_more p ps) h = absurd h
  plain_parts s levels ls level (k ∷ ks) (part_more p ps) h =
      both_plain (part_pieces level p) (more_parts level ps) (plain_part s levels ls level k p h.0)
      (plain_more_parts s levels ls level ks ps h.1)

  plain_more_parts : (s : Setting) (levels : ℕ) (ls : PathSet) (level : ℕ) (ks : List PartKind) (ps : Parts)
      → AreParts (λ q. IsLawful s levels q ls) ks ps → ArePlain (more_parts level ps)
  plain_more_parts s levels ls level ks no_parts h = refl
  plain_more_parts s levels ls level [] (part_more p ps) h = absurd h
  plain_more_parts s levels ls level (k ∷ ks) (part_more p ps) h =
      both_plain (part_pieces level p) (more_parts level ps) (plain_part s levels ls level k p h.0)
      (plain_more_parts s levels ls level ks ps h.1)

  plain_inner_tail : (s : Setting) (levels : ℕ) (p : Position) (k : Option TailKind) (ls : PathSet) (level : ℕ)
      (t : Tail) → is_flat k ≡ true → not (has_body k) ≡ true → IsTail s (IsLawful s levels) p k ls t
      → ArePlain (tail_pieces level t)
  plain_inner_tail s levels p k ls level (terms ts) f b h = absurd (no_terms s levels p k ls ts f h)
  plain_inner_tail s levels p k ls level (fields us) f b h = absurd (no_fields_there s levels p k ls us f h)
  plain_inner_tail s levels p k ls level (body start len) f b h = absurd (no_body s levels p k ls start len b h)
  plain_inner_tail s levels p k ls level (elements ts) f b h =
      plain_then (items level ts) (end_of_list tails.Elements level) refl
      (plain_items s levels positions.Data ls level ts refl (tail_elements s levels p k ls ts h))
  plain_inner_tail s levels p k ls level _ f b h = refl

-- ---- field lists

plain_link : (s : Setting) (levels : ℕ) (ls : PathSet) (level : ℕ) (l : Link)
    → AreFields (λ q. IsLawful s levels q ls) (field_more (connection l) no_fields) → ArePlain (link_pieces level l)
plain_link s levels ls level (target n) h = refl
plain_link s levels ls level (buffer t) h =
    plain_then (pieces level t) end_of_link refl (plain_inner s levels positions.Data ls level t refl h.0.1)

plain_field : (s : Setting) (levels : ℕ) (ls : PathSet) (level : ℕ) (u : Field)
    → AreFields (λ q. IsLawful s levels q ls) (field_more u no_fields) → ArePlain (field_pieces level u)
plain_field s levels ls level (connection l) h = plain_link s levels ls level l h
plain_field s levels ls level _ h = refl

plain_fields : (s : Setting) (levels : ℕ) (ls : PathSet) (level : ℕ) (us : Fields)
    → AreFields (λ q. IsLawful s levels q ls) us → ArePlain (fields_pieces level us)
plain_fields s levels ls level no_fields h = refl
plain_fields s levels ls level (field_more u us) h =
    both_plain (field_pieces level u) (end_of_line ∷ fields_pieces level us) (plain_field s levels ls level u (h.0, tt))
    (plain_fields s levels ls level us h.1)

-- ---- the tails of terms of a table but for methods and those with terms inside

-- no terms stand inside
abbrev pub is_a_line : Tail → Bool
is_a_line (terms ts) = false
is_a_line _ = true

pub plain_kept : (s : Setting) (levels : ℕ) (p : Position) (k : Option TailKind) (ls : PathSet) (level : ℕ) (t : Tail)
    → is_plain (tail t) ≡ true → is_a_line t ≡ true → IsTail s (IsLawful s levels) p k ls t
    → ArePlain (tail_pieces level t)
plain_kept s levels p k ls level (terms ts) e l h = absurd cc
plain_kept s levels p k ls level (body start len) e l h = absurd cc
plain_kept s levels p k ls level (elements ts) e l h =
    plain_then (items level ts) (end_of_list tails.Elements level) refl
    (plain_items s levels positions.Data ls level ts refl (tail_elements s levels p k ls ts h))
plain_kept s levels p k ls level (fields us) e l h =
    plain_then (fields_pieces (deeper level) us) (end_of_list tails.Fields level) refl
    (plain_fields s levels ls (deeper level) us (tail_fields s levels p k ls us h))
plain_kept s levels p k ls level _ e l h = refl
