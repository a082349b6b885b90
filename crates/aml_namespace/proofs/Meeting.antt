-- The counts that a name meets, depth by depth as `Upward` goes: a local ends the walk (`at_local`), and so does a sure
-- path (`at_sure`); another's counts are joined to those so far (`on_from`), and depths without kinds may be left out
-- (`skip_met`). And whether a candidate further up is known (`known_here`, `known_on`, `skip_known`).
use Rattle.std.specs.Prelude.{◌||◌, flat_map, slice_get}
use Rattle.std.proofs.Common.{◌≡◌, ℕ, zero, suc, ◌-◌, ◌<◌, ◌≤◌, Bool, true, false, cond, List, [], ◌∷◌, ◌++◌, take}
use Rattle.std.proofs.Common.{Option, Some, None, is_some, refl, sym, ap, ◌∙◌, arith}
use Rattle.std.proofs.lemmas.Bool.{false≢true}
use Rattle.std.specs.List.{find}
use Rattle.std.specs.Option.{option_or}
use Rattle.std.specs.FinMap as map
use Rattle.std.specs.FinSet as set
use Rattle.aml_names.specs.declared.segments.Seg.{Seg}
use Rattle.aml_names.specs.Paths.{PathSet}
use Rattle.aml_names.specs.Searching.{upward}
use Rattle.aml_namespace.specs.Kinds.{Kind}
use Rattle.aml_namespace.specs.declared.tallies.Counts.{Counts}
use Rattle.aml_namespace.specs.declared.tallies.Counts.TheVariants.{One}
use Rattle.aml_namespace.specs.Predefined.{predefined}
use Rattle.aml_namespace.specs.Namespace.{Namespace, kind_at}
use Rattle.aml_namespace.specs.Known.{Known, Declared, declared_kind, kinds_by, sure_by, outlook_in}
use Rattle.aml_namespace.specs.Runs.{Outlook, counts_by, counts_of, counts_met, is_known, FirstCounts}
use Rattle.aml_namespace.specs.Tallies.{joined, counts_in}
use Rattle.aml_namespace.proofs.Joined.{counts_more, joined_more, joined_nothing}
use Rattle.aml_namespace.proofs.Upward.{later, candidate, later_above, skip_all}

-- what is known has the kind of the first declaration for the first kind
pub first_in : (k : Known) → FirstCounts (outlook_in k)
first_in k = record {
  first = λ p. first (map.get k.declarations p) (predefined p);
  unsure = λ p none. unsure (map.get k.declarations p) (predefined p) none;
}
  where
    first : (o : Option Declared) (standing : Option Kind)
        → option_or (declared_kind o) standing ≡ slice_get (kinds_by o standing) 0
    first None None = refl
    first None (Some k) = refl
    first (Some d) standing = refl

    unsure : (o : Option Declared) (standing : Option Kind) → option_or (declared_kind o) standing ≡ None
        → sure_by o standing ≡ false
    unsure None None none = refl
    unsure None (Some k) some = absurd (false≢true (sym (ap is_some some)))
    unsure (Some d) standing some = absurd (false≢true (sym (ap is_some some)))

no_first : (ks : List Kind) → None ≡ slice_get ks 0 → ks ≡ []
no_first [] h = refl
no_first (k ∷ ks) h = absurd (false≢true (ap is_some h))

module _ (o : Outlook) (locals : PathSet) (scope tail : List Seg) where
  met : ℕ → List ℕ
  met d = counts_met o locals (upward d scope tail)

  one_met : (d : ℕ)
      → counts_met o locals (upward d scope tail) ≡ cond (set.contains locals (take d scope ++ tail)) (0 ∷ [])
      (cond (o.sure (take d scope ++ tail)) (counts_of o (take d scope ++ tail))
      (counts_of o (take d scope ++ tail) ++ counts_met o locals (later o.first locals scope tail d)))
  one_met d = ap (counts_met o locals) (candidate o.first locals scope tail d)

  pub at_local : (c : Counts) (d : ℕ) → set.contains locals (take d scope ++ tail) ≡ true
      → joined c (counts_in (counts_met o locals (upward d scope tail))) ≡ joined c (One 0)
  at_local c d here = ap (λ ns. joined c (counts_in ns)) (one_met d ∙ ap (λ b. cond b (0 ∷ []) (cond (o.sure (take d scope ++ tail))
      (counts_of o (take d scope ++ tail)) (counts_of o (take d scope ++ tail) ++ counts_met o locals (later o.first locals scope tail d)))) here)

  pub at_sure : (c : Counts) (d : ℕ) → set.contains locals (take d scope ++ tail) ≡ false
      → o.sure (take d scope ++ tail) ≡ true
      → joined c (counts_in (counts_met o locals (upward d scope tail))) ≡ joined c (counts_in (counts_of o (take d scope ++ tail)))
  at_sure c d other sure = ap (λ ns. joined c (counts_in ns)) (one_met d ∙ (λ i. cond (other i) (0 ∷ [])
      (cond (sure i) (counts_of o (take d scope ++ tail)) (counts_of o (take d scope ++ tail) ++ counts_met o locals (later o.first locals scope tail d)))))

  unsure_met : (d : ℕ) → set.contains locals (take d scope ++ tail) ≡ false → o.sure (take d scope ++ tail) ≡ false
      → counts_met o locals (upward d scope tail) ≡ counts_of o (take d scope ++ tail) ++ counts_met o locals (later o.first locals scope tail d)
  unsure_met d other unsure = one_met d ∙ (λ i. cond (other i) (0 ∷ [])
      (cond (unsure i) (counts_of o (take d scope ++ tail)) (counts_of o (take d scope ++ tail) ++ counts_met o locals (later o.first locals scope tail d))))

  pub on_from : (c : Counts) (d : ℕ) → set.contains locals (take d scope ++ tail) ≡ false
      → o.sure (take d scope ++ tail) ≡ false → 0 < d
      → joined c (counts_in (counts_met o locals (upward d scope tail)))
      ≡ joined (joined c (counts_in (counts_of o (take d scope ++ tail)))) (counts_in (counts_met o locals (upward (d - 1) scope tail)))
  on_from c d other unsure positive =
      ap (λ ns. joined c (counts_in ns)) (unsure_met d other unsure
      ∙ ap (λ ps. counts_of o (take d scope ++ tail) ++ counts_met o locals ps) (later_above o.first locals scope tail d positive))
      ∙ ap (joined c) (counts_more (counts_of o (take d scope ++ tail)) (counts_met o locals (upward (d - 1) scope tail)))
      ∙ sym (joined_more c (counts_in (counts_of o (take d scope ++ tail))) (counts_in (counts_met o locals (upward (d - 1) scope tail))))

  -- at the root nothing comes behind
  pub at_root : (c : Counts) (d : ℕ) → d ≡ 0 → set.contains locals (take d scope ++ tail) ≡ false
      → joined c (counts_in (counts_met o locals (upward d scope tail))) ≡ joined c (counts_in (counts_of o (take d scope ++ tail)))
  at_root c zero root other = by (o.sure tail) refl
    where
      by : (b : Bool) → o.sure tail ≡ b
          → joined c (counts_in (counts_met o locals (tail ∷ []))) ≡ joined c (counts_in (counts_of o tail))
      by true sure = at_sure c 0 other sure
      by false unsure = ap (joined c) (ap counts_in (λ i. cond (other i) (0 ∷ []) (cond (unsure i) (counts_of o tail) (counts_of o tail ++ [])))
          ∙ counts_more (counts_of o tail) [] ∙ joined_nothing (counts_in (counts_of o tail)))
  at_root c (suc d) root other = absurd (omega (arith, root))

  -- depths without a local and without a kind may be left out
  pub skip_met : FirstCounts o → (m d : ℕ) → m ≤ d
      → ((e : ℕ) → m < e → e ≤ d → set.contains locals (take e scope ++ tail) ≡ false)
      → ((e : ℕ) → m < e → e ≤ d → kind_at o.first (take e scope ++ tail) ≡ None)
      → counts_met o locals (upward d scope tail) ≡ counts_met o locals (upward m scope tail)
  skip_met is m d less other mute = skip_all o.first locals scope tail (counts_met o locals) m d less (λ e more to.
      unsure_met e (other e more to) (is.unsure (take e scope ++ tail) (mute e more to))
      ∙ (λ i. flat_map (counts_by o) (no_first (o.kinds (take e scope ++ tail)) (sym (mute e more to) ∙ is.first (take e scope ++ tail)) i)
      ++ counts_met o locals (later_above o.first locals scope tail e (omega (arith, more)) i)))

module _ (n : Namespace) (locals : PathSet) (scope tail : List Seg) where
  one_known : (d : ℕ) → find (is_known n) (upward d scope tail)
      ≡ cond (is_known n (take d scope ++ tail)) (Some (take d scope ++ tail)) (find (is_known n) (later n locals scope tail d))
  one_known d = ap (find (is_known n)) (candidate n locals scope tail d)

  pub known_here : (d : ℕ) → is_known n (take d scope ++ tail) ≡ true
      → is_some (find (is_known n) (upward d scope tail)) ≡ true
  known_here d known = ap is_some (one_known d ∙ ap (λ b. cond b (Some (take d scope ++ tail)) (find (is_known n) (later n locals scope tail d))) known)

  pub known_on : (d : ℕ) → is_known n (take d scope ++ tail) ≡ false → 0 < d
      → find (is_known n) (upward d scope tail) ≡ find (is_known n) (upward (d - 1) scope tail)
  known_on d unknown positive = one_known d
      ∙ (λ i. cond (unknown i) (Some (take d scope ++ tail)) (find (is_known n) (later_above n locals scope tail d positive i)))

  pub known_root : (d : ℕ) → d ≡ 0 → is_known n (take d scope ++ tail) ≡ false
      → is_some (find (is_known n) (upward d scope tail)) ≡ false
  known_root zero root unknown = ap (λ b. is_some (cond b (Some tail) None)) unknown
  known_root (suc d) root unknown = absurd (omega (arith, root))

  pub skip_known : (m d : ℕ) → m ≤ d
      → ((e : ℕ) → m < e → e ≤ d → (kind_at n (take e scope ++ tail) ≡ None) × (n.outs (take e scope ++ tail) ≡ None))
      → find (is_known n) (upward d scope tail) ≡ find (is_known n) (upward m scope tail)
  skip_known m d less mute = skip_all n locals scope tail (find (is_known n)) m d less (λ e more to.
      let none = mute e more to in
      known_on e (λ i. is_some (none.0 i) || is_some (none.1 i)) (omega (arith, more)))
