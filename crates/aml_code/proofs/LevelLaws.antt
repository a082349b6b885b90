-- What is lawful stays so where more levels are allowed.
use Rattle.std.proofs.Common.{◌≡◌, ℕ, zero, suc, ◌+◌, List, [], ◌∷◌, Option, Some, subst, arith}
use Rattle.aml_names.specs.Paths.{PathSet}
use Rattle.aml_code.specs.declared.rows.PartKind.{PartKind}
use Rattle.aml_code.specs.declared.rows.PartKind.TheVariants as kinds
use Rattle.aml_code.specs.declared.rows.Position.{Position}
use Rattle.aml_code.specs.declared.rows.Position.TheVariants as positions
use Rattle.aml_code.specs.declared.rows.TailKind.{TailKind}
use Rattle.aml_code.specs.declared.rows.TailKind.TheVariants as tails
use Rattle.aml_code.specs.Lawful.{after, Setting, TermsStand, IsLawful, AreTerms, IsPart, AreParts, IsTail, AreFields}
use Rattle.aml_code.specs.Lawful.{IsField, next_position}
use Rattle.aml_code.specs.Tree.{Tree, nothing, named, op, Trees, no_trees, tree_more, Part, child, Parts, no_parts}
use Rattle.aml_code.specs.Tree.{part_more, Tail, terms, elements}
use Rattle.aml_code.specs.Tree.{fields, Field, connection, Fields, no_fields, field_more, target, buffer}

-- what is made of terms that may stand in their positions is made of terms that may by another account
module _ (Is More : Position → Tree → Type 0) (more : (p : Position) (t : Tree) → Is p t → More p t) where
  part_more_so : (k : PartKind) (x : Part) → IsPart Is k x → IsPart More k x
  part_more_so kinds.Term (child t) h = more positions.Argument t h
  part_more_so kinds.Target (child t) h = more positions.Target t h
  part_more_so kinds.Data (child t) h = more positions.Data t h
  part_more_so _ (child t) h = absurd h
  part_more_so _ _ h = h

  parts_more_so : (ks : List PartKind) (xs : Parts) → AreParts Is ks xs → AreParts More ks xs
  parts_more_so [] no_parts h = tt
  parts_more_so (k ∷ ks) (part_more x xs) h = (part_more_so k x h.0, parts_more_so ks xs h.1)
  parts_more_so _ _ h = absurd h

  field_more_so : (u : Field) → IsField Is u → IsField More u
  field_more_so (connection (target n)) h = h
  field_more_so (connection (buffer t)) h = (h.0, more positions.Data t h.1)
  field_more_so _ h = h

  fields_more_so : (us : Fields) → AreFields Is us → AreFields More us
  fields_more_so no_fields h = tt
  fields_more_so (field_more u us) h = (field_more_so u h.0, fields_more_so us h.1)

module _ (s : Setting) (Is More : Position → PathSet → Tree → Type 0) (more : (p : Position) (ls : PathSet) (t : Tree) → Is p ls t → More p ls t) where
  terms_more_so : (p : Position) (ls : PathSet) (ts : Trees) → TermsStand s Is p ls ts → TermsStand s More p ls ts
  terms_more_so p ls no_trees h = tt
  terms_more_so p ls (tree_more t ts) h = (more p ls t h.0, terms_more_so (next_position p t) (after s.scope ls t) ts h.1)

  tail_more_so : (p : Position) (k : Option TailKind) (ls : PathSet) (t : Tail) → IsTail s Is p k ls t
      → IsTail s More p k ls t
  tail_more_so p (Some tails.Terms) ls (terms ts) h = terms_more_so p ls ts h
  tail_more_so p _ ls (terms ts) h = absurd h
  tail_more_so p (Some tails.Elements) ls (elements ts) h = terms_more_so positions.Data ls ts h
  tail_more_so p _ ls (elements ts) h = absurd h
  tail_more_so p (Some tails.Fields) ls (fields us) h = fields_more_so (λ q. Is q ls) (λ q. More q ls) (λ q. more q ls) us h
  tail_more_so p _ ls (fields us) h = absurd h
  tail_more_so p _ ls _ h = h

module _ (s : Setting) where
  deeper : (levels : ℕ) (p : Position) (ls : PathSet) (t : Tree) → IsLawful s levels p ls t
      → IsLawful s (suc levels) p ls t
  deeper zero p ls t h = absurd h
  deeper (suc levels) p ls nothing h = h
  deeper (suc levels) p ls (named n ts) h = (h.0, h.1, h.2, terms_more_so s _ _ (deeper levels) positions.Argument ls ts h.3)
  deeper (suc levels) p ls (op o w ps t) h = record {
    row = h.row;
    listed = h.listed;
    taken = h.taken;
    width = h.width;
    guarded = h.guarded;
    parts = parts_more_so _ _ (λ q. deeper levels q ls) (h.row).parts ps h.parts;
    tail = tail_more_so s _ _ (deeper levels) _ _ ls t h.tail;
  }

  -- by any number of levels
  pub deeper_by : (more levels all : ℕ) (p : Position) (ls : PathSet) (t : Tree) → more + levels ≡ all
      → IsLawful s levels p ls t → IsLawful s all p ls t
  deeper_by zero levels all p ls t e h = subst (λ (n : ℕ). IsLawful s n p ls t) (omega (arith, e)) h
  deeper_by (suc more) levels all p ls t e h = deeper_by more (suc levels) all p ls t (omega (arith, e)) (deeper levels p ls t h)

  pub terms_deeper_by : (more levels all : ℕ) (p : Position) (ls : PathSet) (ts : Trees) → more + levels ≡ all
      → AreTerms s levels p ls ts
      → AreTerms s all p ls ts
  terms_deeper_by more levels all p ls ts e = terms_more_so s _ _ (λ q m t. deeper_by more levels all q m t e) p ls ts
