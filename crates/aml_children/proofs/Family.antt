-- The children of a node, ordered by segment. The one at a place is found by its segment (`at_found`); a new one that
-- is put among them is found, and the others as before (`found_put`), and they stay a family (`family_put`).
use Rattle.std.specs.Prelude.{slice_get}
use Rattle.std.proofs.Common.{◌≡◌, ℕ, zero, suc, ◌+◌, ◌<◌, Bool, true, false, cond, List, [], ◌∷◌, Option, Some, None}
use Rattle.std.proofs.Common.{refl, sym, ap, ◌∙◌, arith}
use Rattle.std.specs.Ordering.{eq_by_cmp, is_eq, is_lt, ordering_reverse}
use Rattle.std.specs.declared.cmp.Ordering.{Ordering}
use Rattle.std.specs.Cmp.{tied_itself}
use Rattle.std.specs.declared.cmp.Ordering.TheVariants.{Less, Equal, Greater}
use Rattle.std.proofs.lemmas.Bool.{cond_both}
use Rattle.std.proofs.lemmas.Map.Views.{tells_apart}
use Rattle.std.proofs.lemmas.Option.{same_Some}
use Rattle.aml_names.specs.declared.segments.Seg.{Seg}
use Rattle.aml_names.specs.Paths.{seg_cmp, segs_total, exact_segs}
use Rattle.aml_children.specs.declared.children.Child.{Child}
use Rattle.aml_children.specs.Children.{child_in, put, IsBefore, Rise}
use Rattle.aml_children.proofs.Sides.{earlier, apart}
use Rattle.aml_children.specs.Numbered.{IsFamily}

before_at : (s : Seg) (cs : List Child) (j : ℕ) (b : Child) → IsBefore s cs → slice_get cs j ≡ Some b
    → seg_cmp s b.seg ≡ Less
before_at s [] j b before at = absurd cc
before_at s (c ∷ cs) zero b before at = ap (λ (e : Child). seg_cmp s e.seg) (sym (same_Some c b at)) ∙ before.0
before_at s (c ∷ cs) (suc j) b before at = before_at s cs j b before.1 at

pub same_itself : (s : Seg) → eq_by_cmp seg_cmp s s ≡ true
same_itself s = ap is_eq (tied_itself segs_total s)

pub at_found : (i len : ℕ) (cs : List Child) (k : ℕ) (c : Child) → IsFamily i len cs → slice_get cs k ≡ Some c
    → child_in cs c.seg ≡ Some c.node
at_found i len [] k c family at = absurd cc
at_found i len (d ∷ cs) zero c family at =
    let same = same_Some d c at in
    ap (λ b. cond b (Some d.node) (child_in cs c.seg)) (ap (λ (e : Child). eq_by_cmp seg_cmp c.seg e.seg) same ∙ same_itself c.seg)
    ∙ ap (λ (e : Child). Some e.node) same
at_found i len (d ∷ cs) (suc k) c family at =
    ap (λ b. cond b (Some d.node) (child_in cs c.seg)) (apart c.seg d.seg (before_at d.seg cs k c family.1.1.0 at)) ∙ at_found i len cs k c family.1.1.1 at

-- a family is in order
pub family_rises : (i len : ℕ) (cs : List Child) → IsFamily i len cs → Rise cs
family_rises i len [] family = tt
family_rises i len (c ∷ cs) family = (family.1.1.0, family_rises i len cs family.1.1.1)

-- a look-up that misses, by its first test
missed : (b : Bool) (x : ℕ) (o : Option ℕ) → cond b (Some x) o ≡ None → (b ≡ false) × (o ≡ None)
missed true x o none = absurd cc
missed false x o none = (refl, none)

pub found_put : (es : List Child) (new : Child) (t : Seg) → child_in es new.seg ≡ None
    → child_in (put es new) t ≡ cond (eq_by_cmp seg_cmp t new.seg) (Some new.node) (child_in es t)
found_put [] new t none = refl
found_put (e ∷ es) new t none =
    let other = missed (eq_by_cmp seg_cmp new.seg e.seg) e.node (child_in es new.seg) none in
    cond_both (is_lt (seg_cmp e.seg new.seg)) _ _ (λ cs. child_in cs t ≡ cond (eq_by_cmp seg_cmp t new.seg) (Some new.node) (child_in (e ∷ es) t))
    (λ _. ap (cond (eq_by_cmp seg_cmp t e.seg) (Some e.node)) (found_put es new t other.1)
    ∙ swap (eq_by_cmp seg_cmp t e.seg) refl (eq_by_cmp seg_cmp t new.seg) refl other.0) (λ _. refl)
  where
    swap : (a : Bool) → eq_by_cmp seg_cmp t e.seg ≡ a → (b : Bool) → eq_by_cmp seg_cmp t new.seg ≡ b
        → eq_by_cmp seg_cmp new.seg e.seg ≡ false →
        cond a (Some e.node) (cond b (Some new.node) (child_in es t)) ≡ cond b (Some new.node) (cond a (Some e.node) (child_in es t))
    swap true is_a true is_b differ =
        let same = ap (λ s. eq_by_cmp seg_cmp s e.seg) (sym (tells_apart exact_segs t new.seg is_b)) ∙ is_a in absurd cc
    swap true is_a false is_b differ = refl
    swap false is_a b is_b differ = refl

before_put : (s : Seg) (es : List Child) (new : Child) → IsBefore s es → seg_cmp s new.seg ≡ Less
    → IsBefore s (put es new)
before_put s [] new before less = (less, tt)
before_put s (e ∷ es) new before less =
    cond_both (is_lt (seg_cmp e.seg new.seg)) _ _ (IsBefore s) (λ _. (before.0, before_put s es new before.1 less)) (λ _. (less, before))

pub wider_family : (i len : ℕ) (cs : List Child) → IsFamily i len cs → IsFamily i (len + 1) cs
wider_family i len [] family = tt
wider_family i len (c ∷ cs) family = (family.0, (omega (arith, family.1.0), (family.1.1.0, wider_family i len cs family.1.1.1)))

pub family_put : (i len : ℕ) (es : List Child) (s : Seg) → i < len → IsFamily i len es → child_in es s ≡ None
    → IsFamily i (len + 1) (put es (record { seg = s; node = len }))
family_put i len [] s within family none = (within, (omega arith, (tt, tt)))
family_put i len (e ∷ es) s within family none =
    let other = missed (eq_by_cmp seg_cmp s e.seg) e.node (child_in es s) none in
    by (seg_cmp e.seg s) refl other.0 (family_put i len es s within family.1.1.1 other.1)
  where
    by : (o : Ordering) → seg_cmp e.seg s ≡ o → eq_by_cmp seg_cmp s e.seg ≡ false → IsFamily i (len + 1) (put es (record { seg = s; node = len })) →
        IsFamily i (len + 1) (cond (is_lt o) (e ∷ put es (record { seg = s; node = len })) (record { seg = s; node = len } ∷ e ∷ es))
    by Less is other rest = (family.0, (omega (arith, family.1.0), (before_put e.seg es (record { seg = s; node = len }) family.1.1.0 is, rest)))
    by Equal is other rest = let same = ap (λ t. eq_by_cmp seg_cmp s t) (exact_segs e.seg s is) ∙ same_itself s in absurd cc
    by Greater is other rest =
        let less : seg_cmp s e.seg ≡ Less = segs_total.antisymm s e.seg ∙ ap ordering_reverse is in
        (within, (omega arith, ((less, earlier s e.seg es less family.1.1.0), wider_family i len (e ∷ es) family)))
