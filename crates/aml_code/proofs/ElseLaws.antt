-- In lawful terms each Else stands right behind an If.
use Rattle.std.specs.Prelude.{◌==◌}
use Rattle.std.proofs.Common.{◌≡◌, ℕ, zero, suc, Bool, List, [], ◌∷◌, true, false, cond, not, Option, Some, refl, ap}
use Rattle.std.proofs.Common.{◌∙◌}
use Rattle.aml_names.specs.declared.segments.Seg.{Seg}
use Rattle.aml_names.specs.Paths.{PathSet}
use Rattle.aml_code.specs.Opcodes.{Row, rows, row_of, takes}
use Rattle.aml_code.specs.declared.rows.Place.{Place}
use Rattle.aml_code.specs.declared.rows.Place.TheVariants as places
use Rattle.aml_code.specs.declared.rows.Position.{Position}
use Rattle.aml_code.specs.declared.rows.Position.TheVariants as positions
use Rattle.aml_code.specs.declared.rows.PartKind.{PartKind}
use Rattle.aml_code.specs.declared.rows.PartKind.TheVariants as kinds
use Rattle.aml_code.specs.declared.rows.TailKind.{TailKind}
use Rattle.aml_code.specs.declared.rows.TailKind.TheVariants as tails
use Rattle.aml_code.specs.Lawful.{after, Setting, IsLawful, AreTerms, AreParts, IsTail, AreFields, has_opcode, terms_in}
use Rattle.aml_code.specs.Lawful.{next_position, ReadsBody, ReadsModule}
use Rattle.aml_code.specs.Laws.{ElsesFollow, ElseFollows, NoElses, FollowInParts, FollowInTail, FollowInFields}
use Rattle.aml_code.specs.Faults.{Arities}
use Rattle.aml_code.proofs.RowFacts.{row_opcode, not_true, rows_say}
use Rattle.aml_code.proofs.Takers.{taker_takes}
use Rattle.aml_code.proofs.InnerLaws.{is_inner, inner_next}
use Rattle.aml_code.specs.Tree.{Tree, nothing, named, op, Trees, no_trees, tree_more, child, Parts, no_parts, part_more}
use Rattle.aml_code.specs.Tree.{Tail, terms, elements, fields}
use Rattle.aml_code.specs.Tree.{connection, Fields, no_fields, field_more, target, buffer}

abbrev pub is_after_if : Position → Bool
is_after_if positions.AfterIf = true
is_after_if positions.RunAfterIf = true
is_after_if _ = false

-- ---- what stands behind an If

behind_by : (b : Bool) → is_after_if (cond b positions.AfterIf positions.BodyTerm) ≡ true → b ≡ true
behind_by true e = refl
behind_by false e = absurd cc

behind_run : (b : Bool) → is_after_if (cond b positions.RunAfterIf positions.RunTerm) ≡ true → b ≡ true
behind_run true e = refl
behind_run false e = absurd cc

behind : (p : Position) (t : Tree) → is_after_if (next_position p t) ≡ true → has_opcode 0xA0 t ≡ true
behind positions.BodyTerm t e = behind_by (has_opcode 0xA0 t) e
behind positions.AfterIf t e = behind_by (has_opcode 0xA0 t) e
behind positions.RunTerm t e = behind_run (has_opcode 0xA0 t) e
behind positions.RunAfterIf t e = behind_run (has_opcode 0xA0 t) e
behind _ t e = absurd cc

-- ---- the terms of a list, and all that is inside them

-- an Else is taken only where an If may stand before it
may_follow : (p : Position) (before : Bool) (o : ℕ) (r : Row) → (is_after_if p ≡ true → before ≡ true)
    → row_of o ≡ Some r → takes p r.place ≡ true
    → o ≡ 0xA1 → before ≡ true
unfolding rows
may_follow positions.AfterIf before o r k listed taken e = k refl
may_follow positions.RunAfterIf before o r k listed taken e = k refl
may_follow p before o r k listed taken e =
    let other = rows_say (λ r. r.opcode == 0xA1) (λ r. not (takes p r.place)) refl o r listed (ap (λ n. n == 0xA1) (row_opcode o r listed ∙ e)) in
    absurd (cc (not_true _ other, taken))

none_after : (p : Position) → is_inner p ≡ true → is_after_if p ≡ true → false ≡ true
none_after positions.AfterIf i e = i
none_after positions.RunAfterIf i e = i
none_after _ i e = e

-- a list of terms inside a term begins behind nothing
inner : (p : Position) (place : Place) → is_after_if (terms_in p place) ≡ true → false ≡ true
inner positions.ModuleTerm places.If e = e
inner positions.ModuleTerm _ e = e
inner positions.RunTerm _ e = e
inner positions.RunAfterIf _ e = e
inner _ place e = e

module _ (s : Setting) where
  mutual
    -- a list whose first term stands in a position
    pub elses_follow : (levels : ℕ) (p : Position) (ls : PathSet) (ts : Trees) (before : Bool)
        → (is_after_if p ≡ true → before ≡ true)
        → AreTerms s levels p ls ts
        → ElsesFollow before ts
    elses_follow levels p ls no_trees before k l = tt
    elses_follow levels p ls (tree_more t ts) before k l =
        (else_follows levels p ls t before k l.0, elses_follow levels (next_position p t) (after s.scope ls t) ts (has_opcode 0xA0 t) (behind p t) l.1)

    else_follows : (levels : ℕ) (p : Position) (ls : PathSet) (t : Tree) (before : Bool)
        → (is_after_if p ≡ true → before ≡ true) → IsLawful s levels p ls t
        → ElseFollows before t
    else_follows zero p ls t before k l = absurd l
    else_follows (suc levels) p ls nothing before k l = tt
    else_follows (suc levels) p ls (named n ts) before k l = none_follow levels positions.Argument ls ts refl l.3
    else_follows (suc levels) p ls (op o w ps t) before k l = (
      may_follow p before o l.row k l.listed (taker_takes p (l.row).place l.taken),
      parts_follow levels (l.row).parts ls ps l.parts,
      tail_follows levels (terms_in p (l.row).place) _ ls t (inner p (l.row).place) l.tail,
    )

    -- arguments, or elements
    none_follow : (levels : ℕ) (p : Position) (ls : PathSet) (ts : Trees) → is_inner p ≡ true
        → AreTerms s levels p ls ts → NoElses ts
    none_follow levels p ls no_trees i l = tt
    none_follow levels p ls (tree_more t ts) i l =
        (else_follows levels p ls t false (none_after p i) l.0, none_follow levels (next_position p t) (after s.scope ls t) ts (inner_next p t i) l.1)

    parts_follow : (levels : ℕ) (ks : List PartKind) (ls : PathSet) (xs : Parts)
        → AreParts (λ q. IsLawful s levels q ls) ks xs → FollowInParts xs
    parts_follow levels ks ls no_parts l = tt
    parts_follow levels [] ls (part_more x xs) l = absurd l
    parts_follow levels (kinds.Term ∷ ks) ls (part_more (child t) xs) l =
        (else_follows levels positions.Argument ls t false (λ e. e) l.0, parts_follow levels ks ls xs l.1)
    parts_follow levels (kinds.Target ∷ ks) ls (part_more (child t) xs) l =
        (else_follows levels positions.Target ls t false (λ e. e) l.0, parts_follow levels ks ls xs l.1)
    parts_follow levels (kinds.Data ∷ ks) ls (part_more (child t) xs) l =
        (else_follows levels positions.Data ls t false (λ e. e) l.0, parts_follow levels ks ls xs l.1)
    parts_follow levels (_ ∷ ks) ls (part_more (child t) xs) l = absurd l.0
    parts_follow levels (k ∷ ks) ls (part_more _ xs) l = parts_follow levels ks ls xs l.1

    tail_follows : (levels : ℕ) (p : Position) (k : Option TailKind) (ls : PathSet) (t : Tail)
        → (is_after_if p ≡ true → false ≡ true)
        → IsTail s (IsLawful s levels) p k ls t → FollowInTail t
    tail_follows levels p (Some tails.Terms) ls (terms ts) apart l = elses_follow levels p ls ts false apart l
    tail_follows levels p _ ls (terms ts) apart l = absurd l
    tail_follows levels p (Some tails.Elements) ls (elements ts) apart l = none_follow levels positions.Data ls ts refl l
    tail_follows levels p _ ls (elements ts) apart l = absurd l
    tail_follows levels p (Some tails.Fields) ls (fields us) apart l = fields_follow levels ls us l
    tail_follows levels p _ ls (fields us) apart l = absurd l
    tail_follows levels p k ls _ apart l = tt

    fields_follow : (levels : ℕ) (ls : PathSet) (us : Fields) → AreFields (λ q. IsLawful s levels q ls) us
        → FollowInFields us
    fields_follow levels ls no_fields l = tt
    fields_follow levels ls (field_more (connection (buffer t)) us) l =
        (else_follows levels positions.Data ls t false (λ e. e) l.0.1, fields_follow levels ls us l.1)
    fields_follow levels ls (field_more (connection (target n)) us) l = fields_follow levels ls us l.1
    fields_follow levels ls (field_more _ us) l = fields_follow levels ls us l.1

-- in the body of a method, and in a table
pub else_behind_if : (arity : Arities) (method : List Seg) (code : List ℕ) (ts : Trees) → ReadsBody arity method code ts
    → ElsesFollow false ts
else_behind_if arity method code ts reads = elses_follow _ 512 positions.BodyTerm _ ts false (λ e. e) reads.lawful

pub else_behind_if_of_a_table : (code : List ℕ) (ts : Trees) → ReadsModule code ts → ElsesFollow false ts
else_behind_if_of_a_table code ts reads = elses_follow _ 512 positions.ModuleTerm _ ts false (λ e. e) reads.lawful
