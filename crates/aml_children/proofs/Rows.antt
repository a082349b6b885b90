-- Children whose segments rise come to a tree one behind the other: those in front of one have none of its segment, and it
-- is put behind them all (`comes_last`).
use Rattle.std.proofs.Common.{◌≡◌, ℕ, ◌+◌, ◌<◌, true, false, cond, List, [], ◌∷◌, ◌++◌, length, take, drop, get_or}
use Rattle.std.proofs.Common.{Some, None, refl, sym, ap, subst, ◌∙◌}
use Rattle.std.proofs.lemmas.List.{drop_more, take_more, take-append-drop}
use Rattle.std.specs.Ordering.{is_lt}
use Rattle.aml_children.specs.declared.children.Child.{Child}
use Rattle.aml_children.specs.Children.{child_in, Rise, put}
use Rattle.aml_children.proofs.Sides.{apart, before_middle, front_rises}

behind_all : (x : Child) (xs ys : List Child) → Rise (xs ++ x ∷ ys) → (child_in xs x.seg ≡ None) × (put xs x ≡ xs ++ x ∷ [])
behind_all x [] ys rise = (refl, refl)
behind_all x (d ∷ xs) ys rise =
    let less = before_middle d.seg xs x ys rise.0 in
    let rest = behind_all x xs ys rise.1 in (
      ap (λ b. cond b (Some d.node) (child_in xs x.seg)) (apart x.seg d.seg less) ∙ rest.0,
      ap (λ b. cond b (d ∷ put xs x) (x ∷ d ∷ xs)) (ap is_lt less) ∙ ap (λ (es : List Child). d ∷ es) rest.1,
    )

pub comes_last : (cs : List Child) (i : ℕ) (x : Child) → i < length cs → x ≡ get_or cs i x → Rise cs
    → Rise (take i cs) × (child_in (take i cs) x.seg ≡ None) × (put (take i cs) x ≡ take (i + 1) cs)
comes_last cs i x inside here rise =
    let next : drop i cs ≡ x ∷ drop (i + 1) cs = drop_more cs i x inside ∙ ap (λ y. y ∷ drop (i + 1) cs) (sym here) in
    let whole : take i cs ++ x ∷ drop (i + 1) cs ≡ cs = ap (λ ds. take i cs ++ ds) (sym next) ∙ take-append-drop i cs in
    let rises = subst Rise (sym whole) rise in
    let it = behind_all x (take i cs) (drop (i + 1) cs) rises in (
      front_rises (take i cs) (x ∷ drop (i + 1) cs) rises,
      it.0,
      it.1 ∙ sym (take_more cs i x inside ∙ ap (λ y. take i cs ++ y ∷ []) (sym here)),
    )
