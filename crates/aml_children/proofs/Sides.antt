-- Children around one of them, whose segments rise. A segment that comes before it is sought, and put, among those in
-- front of it, and one that comes behind it among those behind it (`found_left`, `put_right` and their kin).
use Rattle.std.specs.Option.{option_or}
use Rattle.std.specs.declared.cmp.Ordering.{Ordering}
use Rattle.std.proofs.Common.{◌≡◌, ◌+◌, Bool, true, false, cond, List, [], ◌∷◌, ◌++◌, length, Some, None, refl, sym, ap}
use Rattle.std.proofs.Common.{◌∙◌, arith}
use Rattle.std.specs.Ordering.{eq_by_cmp, is_eq, is_lt, ordering_reverse}
use Rattle.std.specs.declared.cmp.Ordering.TheVariants.{Less, Equal, Greater}
use Rattle.aml_names.specs.declared.segments.Seg.{Seg}
use Rattle.aml_names.specs.Paths.{seg_cmp, segs_total, exact_segs}
use Rattle.aml_children.specs.declared.children.Child.{Child}
use Rattle.aml_children.specs.Children.{child_in, IsBefore, Rise, put, behind, first_node}

-- ---- the segments rise

before_front : (s : Seg) (l m : List Child) → IsBefore s (l ++ m) → IsBefore s l
before_front s [] m before = tt
before_front s (c ∷ l) m before = (before.0, before_front s l m before.1)

pub before_middle : (s : Seg) (l : List Child) (k : Child) (r : List Child) → IsBefore s (l ++ k ∷ r)
    → seg_cmp s k.seg ≡ Less
before_middle s [] k r before = before.0
before_middle s (c ∷ l) k r before = before_middle s l k r before.1

pub front_rises : (l m : List Child) → Rise (l ++ m) → Rise l
front_rises [] m rise = tt
front_rises (c ∷ l) m rise = (before_front c.seg l m rise.0, front_rises l m rise.1)

pub back_rises : (l : List Child) (k : Child) (r : List Child) → Rise (l ++ k ∷ r) → Rise (k ∷ r)
back_rises [] k r rise = rise
back_rises (c ∷ l) k r rise = back_rises l k r rise.1

absent_before : (s : Seg) (cs : List Child) → IsBefore s cs → child_in cs s ≡ None
absent_before s [] before = refl
absent_before s (c ∷ cs) before = ap (λ b. cond b (Some c.node) (child_in cs s)) (ap is_eq before.0) ∙ absent_before s cs before.1

pub earlier : (s t : Seg) (cs : List Child) → seg_cmp s t ≡ Less → IsBefore t cs → IsBefore s cs
earlier s t [] less before = tt
earlier s t (c ∷ cs) less before = (segs_total.trans s t c.seg less before.0, earlier s t cs less before.1)

turned : (s t : Seg) → seg_cmp s t ≡ Greater → seg_cmp t s ≡ Less
turned s t more = segs_total.antisymm t s ∙ ap ordering_reverse more

turned_less : (s t : Seg) → seg_cmp s t ≡ Less → seg_cmp t s ≡ Greater
turned_less s t less = segs_total.antisymm t s ∙ ap ordering_reverse less

pub apart : (s t : Seg) → seg_cmp t s ≡ Less → eq_by_cmp seg_cmp s t ≡ false
apart s t e = ap is_eq (segs_total.antisymm s t ∙ ap ordering_reverse e)

-- what stands behind a middle has none of the segments before it
absent_back : (l : List Child) (k : Child) (r : List Child) (s : Seg) → Rise (l ++ k ∷ r) → seg_cmp s k.seg ≡ Less
    → child_in (k ∷ r) s ≡ None
absent_back l k r s rise less = absent_before s (k ∷ r) (less, earlier s k.seg r less (back_rises l k r rise).0)

front_only : (l m : List Child) (s : Seg) → child_in m s ≡ None → child_in (l ++ m) s ≡ child_in l s
front_only [] m s none = none
front_only (c ∷ l) m s none = ap (cond (eq_by_cmp seg_cmp s c.seg) (Some c.node)) (front_only l m s none)

module _ (l : List Child) (e : Child) (r : List Child) (s : Seg) where
  pub found_left : Rise (l ++ e ∷ r) → seg_cmp s e.seg ≡ Less → child_in (l ++ e ∷ r) s ≡ child_in l s
  found_left rise less = front_only l (e ∷ r) s (absent_back l e r s rise less)

  -- nor is a segment among those before a middle that it doesn't come before
  past_front : ((t : Seg) → seg_cmp t e.seg ≡ Less → seg_cmp t s ≡ Less) → (cs : List Child) → Rise (cs ++ e ∷ r) →
      child_in (cs ++ e ∷ r) s ≡ child_in (e ∷ r) s
  past_front less [] rise = refl
  past_front less (c ∷ cs) rise = ap (λ b. cond b (Some c.node) (child_in (cs ++ e ∷ r) s))
      (apart s c.seg (less c.seg (before_middle c.seg cs e r rise.0))) ∙ past_front less cs rise.1

  pub found_right : Rise (l ++ e ∷ r) → seg_cmp s e.seg ≡ Greater → child_in (l ++ e ∷ r) s ≡ child_in r s
  found_right rise more = past_front (λ t less. segs_total.trans t e.seg s less (turned s e.seg more)) l rise
      ∙ ap (λ b. cond b (Some e.node) (child_in r s)) (ap is_eq more)

  pub found_middle : Rise (l ++ e ∷ r) → seg_cmp s e.seg ≡ Equal → child_in (l ++ e ∷ r) s ≡ Some e.node
  found_middle rise same = past_front (λ t less. ap (seg_cmp t) (exact_segs s e.seg same) ∙ less) l rise
      ∙ ap (λ b. cond b (Some e.node) (child_in r s)) (ap is_eq same)

-- ---- a new child goes to one side

module _ (e : Child) (r : List Child) (c : Child) where
  pub put_left : (l : List Child) → seg_cmp c.seg e.seg ≡ Less → put (l ++ e ∷ r) c ≡ put l c ++ e ∷ r
  put_left [] less = ap (λ b. cond b (e ∷ put r c) (c ∷ e ∷ r)) (ap is_lt (turned_less c.seg e.seg less))
  put_left (d ∷ l) less = by (is_lt (seg_cmp d.seg c.seg)) (put_left l less)
    where
      by : (b : Bool) → put (l ++ e ∷ r) c ≡ put l c ++ e ∷ r
          → cond b (d ∷ put (l ++ e ∷ r) c) (c ∷ d ∷ (l ++ e ∷ r)) ≡ cond b (d ∷ put l c) (c ∷ d ∷ l) ++ e
          ∷ r
      by true same = ap (λ (es : List Child). d ∷ es) same
      by false same = refl

  past : (l : List Child) → Rise (l ++ e ∷ r) → seg_cmp e.seg c.seg ≡ Less → put (l ++ e ∷ r) c ≡ l ++ e ∷ put r c
  past [] rise less = ap (λ b. cond b (e ∷ put r c) (c ∷ e ∷ r)) (ap is_lt less)
  past (d ∷ l) rise less =
      ap (λ b. cond b (d ∷ put (l ++ e ∷ r) c) (c ∷ d ∷ (l ++ e ∷ r))) (ap is_lt (segs_total.trans d.seg e.seg c.seg (before_middle d.seg l e r rise.0) less))
      ∙ ap (λ (es : List Child). d ∷ es) (past l rise.1 less)

  pub put_right : (l : List Child) → Rise (l ++ e ∷ r) → seg_cmp c.seg e.seg ≡ Greater
      → put (l ++ e ∷ r) c ≡ l ++ e ∷ put r c
  put_right l rise more = past l rise (turned c.seg e.seg more)

pub length_put : (cs : List Child) (c : Child) → length (put cs c) ≡ length cs + 1
length_put [] c = refl
length_put (d ∷ cs) c = by (is_lt (seg_cmp d.seg c.seg)) (length_put cs c)
  where
    by : (b : Bool) → length (put cs c) ≡ length cs + 1
        → length (cond b (d ∷ put cs c) (c ∷ d ∷ cs)) ≡ length (d ∷ cs) + 1
    by true longer = omega (arith, longer)
    by false longer = omega arith

-- ---- the first one behind a segment

pub behind_left : (l : List Child) (k : Child) (r : List Child) (s : Seg) → is_lt (seg_cmp s k.seg) ≡ true
    → first_node (behind s (l ++ k ∷ r)) ≡ option_or (first_node (behind s l)) (Some k.node)
behind_left [] k r s less = ap (λ b. first_node (cond b (k ∷ r) (behind s r))) less
behind_left (c ∷ l) k r s less = by (is_lt (seg_cmp s c.seg)) (behind_left l k r s less)
  where
    by : (b : Bool) → first_node (behind s (l ++ k ∷ r)) ≡ option_or (first_node (behind s l)) (Some k.node)
        → first_node (cond b (c ∷ (l ++ k ∷ r)) (behind s (l ++ k ∷ r))) ≡ option_or (first_node (cond b (c ∷ l) (behind s l))) (Some k.node)
    by true same = refl
    by false same = same

not_before : (s t u : Seg) → seg_cmp t u ≡ Less → is_lt (seg_cmp s u) ≡ false → is_lt (seg_cmp s t) ≡ false
not_before s t u less not = by (seg_cmp s t) refl
  where
    by : (o : Ordering) → seg_cmp s t ≡ o → is_lt o ≡ false
    by Less is = sym (ap is_lt (segs_total.trans s t u is less)) ∙ not
    by Equal is = refl
    by Greater is = refl

pub behind_right : (l : List Child) (k : Child) (r : List Child) (s : Seg) → Rise (l ++ k ∷ r)
    → is_lt (seg_cmp s k.seg) ≡ false
    → behind s (l ++ k ∷ r) ≡ behind s r
behind_right [] k r s rise not = ap (λ b. cond b (k ∷ r) (behind s r)) not
behind_right (c ∷ l) k r s rise not =
    ap (λ b. cond b (c ∷ (l ++ k ∷ r)) (behind s (l ++ k ∷ r))) (not_before s c.seg k.seg (before_middle c.seg l k r rise.0) not)
    ∙ behind_right l k r s rise.1 not
