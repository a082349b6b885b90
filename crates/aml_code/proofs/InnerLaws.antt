-- What stands inside a term and not in a list of terms declares nothing: an argument, a target, data.
use Rattle.std.proofs.Common.{◌≡◌, ℕ, zero, suc, Bool, true, false, not, ◌&&◌, List, Option, Some, None, option_map}
use Rattle.std.proofs.Common.{refl, ap, subst, ◌∙◌}
use Rattle.aml_names.specs.declared.segments.Seg.{Seg}
use Rattle.aml_names.specs.Paths.{PathSet}
use Rattle.aml_code.specs.declared.rows.Place.{Place}
use Rattle.aml_code.specs.declared.rows.Place.TheVariants as places
use Rattle.aml_code.specs.declared.rows.Position.{Position}
use Rattle.aml_code.specs.declared.rows.Position.TheVariants as positions
use Rattle.aml_code.specs.declared.rows.Role.{Role}
use Rattle.aml_code.specs.declared.rows.Role.TheVariants as roles
use Rattle.aml_code.specs.declared.rows.TailKind.{TailKind}
use Rattle.aml_code.specs.declared.rows.TailKind.TheVariants as tails
use Rattle.aml_code.specs.Opcodes.{Row, rows, row_of, takes}
use Rattle.aml_code.specs.Tree.{Tree, nothing, named, op, Trees, no_trees, tree_more, Parts, Tail, terms}
use Rattle.aml_code.specs.Lawful.{names_declared, with_declared, declared_by, after, after_all, after_tail, Setting}
use Rattle.aml_code.specs.Lawful.{IsLawful, AreTerms, IsTail, next_position, terms_in, tail_in}
use Rattle.aml_code.proofs.RowFacts.{and_left, and_right, rows_say}
use Rattle.aml_code.proofs.Takers.{taker_takes}

abbrev pub is_inner : Position → Bool
is_inner positions.Argument = true
is_inner positions.Target = true
is_inner positions.Data = true
is_inner _ = false

pub inner_next : (p : Position) (t : Tree) → is_inner p ≡ true → is_inner (next_position p t) ≡ true
inner_next positions.BodyTerm t i = absurd cc
inner_next positions.AfterIf t i = absurd cc
inner_next positions.RunTerm t i = absurd cc
inner_next positions.RunAfterIf t i = absurd cc
inner_next _ t i = i

-- ---- by the table: no row that may stand there declares, or has a list of terms

is_other : Role → Bool
is_other roles.Other = true
is_other _ = false

has_terms : Option TailKind → Bool
has_terms (Some tails.Terms) = true
has_terms _ = false

as_argument : (p : Position) (place : Place) → is_inner p ≡ true → takes p place ≡ true
    → takes positions.Argument place ≡ true
as_argument positions.Argument place i e = e
as_argument positions.Target places.Target i e = refl
as_argument positions.Data places.Data i e = refl
as_argument _ _ i e = absurd cc

quiet : (o : ℕ) (r : Row) → row_of o ≡ Some r → takes positions.Argument r.place ≡ true
    → (is_other r.role && not (has_terms r.tail)) ≡ true
unfolding rows is_other has_terms
quiet o r e taken = rows_say (λ r. takes positions.Argument r.place) (λ r. is_other r.role && not (has_terms r.tail)) refl o r e taken

-- ---- nothing is declared

none_declared : (scope : Option (List Seg)) (ls : PathSet) (role : Role) (ps : Parts) (t : Tail) → is_other role ≡ true
    → with_declared scope ls (names_declared role ps t) ≡ ls
unfolding is_other
none_declared None ls role ps t e = refl
none_declared (Some path) ls roles.Other ps t e = refl
none_declared (Some path) ls _ ps t e = absurd cc

tail_unchanged : (s : Setting) (levels : ℕ) (p : Position) (k : Option TailKind) (ls : PathSet) (t : Tail)
    → not (has_terms k) ≡ true
    → IsTail s (IsLawful s levels) p k ls t → after_tail s.scope ls t ≡ ls
unfolding has_terms
tail_unchanged s levels p (Some tails.Terms) ls (terms ts) e h = absurd cc
tail_unchanged s levels p _ ls (terms ts) e h = absurd h
tail_unchanged s levels p k ls _ e h = refl

-- outside a table that may run each tail is kept
kept_inside : (p : Position) (k : Option TailKind) → is_inner p ≡ true → option_map (tail_in p) k ≡ k
kept_inside p None i = refl
kept_inside positions.RunTerm (Some k) i = absurd cc
kept_inside positions.RunAfterIf (Some k) i = absurd cc
kept_inside _ (Some k) i = refl

pub unchanged : (s : Setting) (levels : ℕ) (p : Position) (ls : PathSet) (t : Tree) → is_inner p ≡ true
    → IsLawful s levels p ls t → after s.scope ls t ≡ ls
unchanged s zero p ls t i h = absurd h
unchanged s (suc levels) p ls nothing i h = refl
unchanged s (suc levels) p ls (named n ts) i h = refl
unchanged s (suc levels) p ls (op o w ps t) i h =
    let row = h.row in
    let q = quiet o row h.listed (as_argument p row.place i (taker_takes p row.place h.taken)) in
    ap (λ (f : Option Row). declared_by s.scope f (after_tail s.scope ls t) ps t) h.listed
    ∙ none_declared s.scope (after_tail s.scope ls t) row.role ps t (and_left (is_other row.role) (not (has_terms row.tail)) q)
    ∙ tail_unchanged s levels _ row.tail ls t (and_right (is_other row.role) (not (has_terms row.tail)) q)
    (subst (λ (k : Option TailKind). IsTail s (IsLawful s levels) (terms_in p row.place) k ls t) (kept_inside p row.tail i) h.tail)

pub all_unchanged : (s : Setting) (levels : ℕ) (p : Position) (ls : PathSet) (ts : Trees) → is_inner p ≡ true
    → AreTerms s levels p ls ts
    → after_all s.scope ls ts ≡ ls
all_unchanged s levels p ls no_trees i h = refl
all_unchanged s levels p ls (tree_more t ts) i h =
    all_unchanged s levels (next_position p t) (after s.scope ls t) ts (inner_next p t i) h.1 ∙ unchanged s levels p ls t i h.0
