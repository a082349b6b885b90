-- Where a method can't stand there is no method's body: in a term's parts, in elements, in field lists, in terms of a
-- body.
use Rattle.std.proofs.Common.{◌≡◌, ℕ, zero, suc, true, List, [], ◌∷◌, ◌++◌, Option, Some, refl, ap, ◌∙◌}
use Rattle.aml_names.specs.Paths.{PathSet}
use Rattle.aml_code.proofs.Takers.{taker_takes}
use Rattle.aml_code.specs.declared.rows.PartKind.{PartKind}
use Rattle.aml_code.specs.declared.rows.PartKind.TheVariants as kinds
use Rattle.aml_code.specs.declared.rows.Position.{Position}
use Rattle.aml_code.specs.declared.rows.Position.TheVariants as positions
use Rattle.aml_code.specs.declared.rows.TailKind.{TailKind}
use Rattle.aml_code.specs.declared.rows.TailKind.TheVariants as tails
use Rattle.aml_code.specs.Tree.{Tree, nothing, named, op, Trees, no_trees, tree_more, Part, child, Parts, no_parts}
use Rattle.aml_code.specs.Tree.{part_more, Tail, terms, elements, fields}
use Rattle.aml_code.specs.Tree.{body, Field, connection, Fields, no_fields, field_more, target, buffer}
use Rattle.aml_code.specs.Lawful.{after, Setting, IsLawful, AreTerms, IsPart, AreParts, IsTail, AreFields, IsField}
use Rattle.aml_code.specs.Lawful.{terms_in, next_position}
use Rattle.aml_parse.proofs.Bodiless.{is_bodiless, next_bodiless, inner_bodiless, no_body}
use Rattle.aml_load.specs.Spans.{tree_spans, all_spans, part_spans, parts_spans, tail_spans, field_spans, fields_spans}

-- ---- a tail is of its kind

module _ (s : Setting) (levels : ℕ) (p : Position) (ls : PathSet) where
  pub terms_tail : (k : Option TailKind) (xs : Trees) → IsTail s (IsLawful s levels) p k ls (terms xs)
      → (k ≡ Some tails.Terms) × AreTerms s levels p ls xs
  terms_tail (Some tails.Terms) xs h = (refl, h)
  terms_tail _ xs h = absurd h

  elements_tail : (k : Option TailKind) (xs : Trees) → IsTail s (IsLawful s levels) p k ls (elements xs)
      → AreTerms s levels positions.Data ls xs
  elements_tail (Some tails.Elements) xs h = h
  elements_tail _ xs h = absurd h

  fields_tail : (k : Option TailKind) (us : Fields) → IsTail s (IsLawful s levels) p k ls (fields us)
      → AreFields (λ q. IsLawful s levels q ls) us
  fields_tail (Some tails.Fields) us h = h
  fields_tail _ us h = absurd h

  pub body_tail : (k : Option TailKind) (start len : ℕ) → IsTail s (IsLawful s levels) p k ls (body start len)
      → k ≡ Some tails.Body
  body_tail (Some tails.Body) start len h = refl
  body_tail _ start len h = absurd h

-- ---- no bodies

both_none : {X : Type 0} (xs ys : List X) → xs ≡ [] → ys ≡ [] → xs ++ ys ≡ []
both_none xs ys h g = ap (λ zs. zs ++ ys) h ∙ g

module _ (s : Setting) (t : ℕ) where
  mutual
    pub tree_none : (levels : ℕ) (p : Position) (ls : PathSet) (x : Tree) → is_bodiless p ≡ true
        → IsLawful s levels p ls x → tree_spans t x ≡ []
    tree_none levels p ls nothing h l = refl
    tree_none zero p ls _ h l = absurd l
    tree_none (suc levels) p ls (named n xs) h l = all_none levels positions.Argument ls xs refl l.3
    tree_none (suc levels) p ls (op o w ps r) h l =
        both_none (parts_spans t ps) (tail_spans t r) (parts_none levels (l.row).parts ls ps l.parts)
        (tail_none levels (terms_in p (l.row).place) _ ls r (λ e. inner_bodiless p (l.row).place h)
        (no_body p o l.row h l.listed (taker_takes p (l.row).place l.taken)) l.tail)

    pub all_none : (levels : ℕ) (p : Position) (ls : PathSet) (xs : Trees) → is_bodiless p ≡ true
        → AreTerms s levels p ls xs → all_spans t xs ≡ []
    all_none levels p ls no_trees h l = refl
    all_none levels p ls (tree_more x xs) h l =
        both_none (tree_spans t x) (all_spans t xs) (tree_none levels p ls x h l.0)
        (all_none levels (next_position p x) (after s.scope ls x) xs (next_bodiless p x h) l.1)

    part_none : (levels : ℕ) (k : PartKind) (ls : PathSet) (p : Part) → IsPart (λ q. IsLawful s levels q ls) k p
        → part_spans t p ≡ []
    part_none levels kinds.Term ls (child x) l = tree_none levels positions.Argument ls x refl l
    part_none levels kinds.Target ls (child x) l = tree_none levels positions.Target ls x refl l
    part_none levels kinds.Data ls (child x) l = tree_none levels positions.Data ls x refl l
    part_none levels _ ls (child x) l = absurd l
    part_none levels k ls _ l = refl

    pub parts_none : (levels : ℕ) (ks : List PartKind) (ls : PathSet) (ps : Parts)
        → AreParts (λ q. IsLawful s levels q ls) ks ps → parts_spans t ps ≡ []
    parts_none levels ks ls no_parts l = refl
    parts_none levels [] ls (part_more p ps) l = absurd l
    parts_none levels (k ∷ ks) ls (part_more p ps) l =
        both_none (part_spans t p) (parts_spans t ps) (part_none levels k ls p l.0) (parts_none levels ks ls ps l.1)

    -- a tail that is no body, and whose terms aren't those of a table
    pub tail_none : (levels : ℕ) (p : Position) (k : Option TailKind) (ls : PathSet) (r : Tail)
        → (k ≡ Some tails.Terms → is_bodiless p ≡ true)
        → (k ≡ Some tails.Body → ⊥) → IsTail s (IsLawful s levels) p k ls r → tail_spans t r ≡ []
    tail_none levels p k ls (terms xs) h other l = let d = terms_tail s levels p ls k xs l in all_none levels p ls xs (h d.0) d.1
    tail_none levels p k ls (elements xs) h other l = all_none levels positions.Data ls xs refl (elements_tail s levels p ls k xs l)
    tail_none levels p k ls (fields us) h other l = fields_none levels ls us (fields_tail s levels p ls k us l)
    tail_none levels p k ls (body start len) h other l = absurd (other (body_tail s levels p ls k start len l))
    tail_none levels p k ls _ h other l = refl

    field_none : (levels : ℕ) (ls : PathSet) (u : Field) → IsField (λ q. IsLawful s levels q ls) u
        → field_spans t u ≡ []
    field_none levels ls (connection (buffer x)) l = tree_none levels positions.Data ls x refl l.1
    field_none levels ls (connection (target n)) l = refl
    field_none levels ls _ l = refl

    fields_none : (levels : ℕ) (ls : PathSet) (us : Fields) → AreFields (λ q. IsLawful s levels q ls) us
        → fields_spans t us ≡ []
    fields_none levels ls no_fields l = refl
    fields_none levels ls (field_more u us) l =
        both_none (field_spans t u) (fields_spans t us) (field_none levels ls u l.0) (fields_none levels ls us l.1)

  pub elements_none : (levels : ℕ) (p : Position) (k : Option TailKind) (ls : PathSet) (xs : Trees)
      → IsTail s (IsLawful s levels) p k ls (elements xs)
      → all_spans t xs ≡ []
  elements_none levels p k ls xs l = all_none levels positions.Data ls xs refl (elements_tail s levels p ls k xs l)

  pub fields_tail_none : (levels : ℕ) (p : Position) (k : Option TailKind) (ls : PathSet) (us : Fields)
      → IsTail s (IsLawful s levels) p k ls (fields us)
      → fields_spans t us ≡ []
  fields_tail_none levels p k ls us l = fields_none levels ls us (fields_tail s levels p ls k us l)
