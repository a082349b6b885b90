-- The count that some part of a namespace has of a name in a scope, depth by depth as `Upward` goes: that of the nearest
-- candidate that has one.
use Rattle.std.proofs.Common.{◌≡◌, ℕ, ◌-◌, ◌<◌, ◌≤◌, List, [], ◌∷◌, ◌++◌, Option, Some, None, take, sym, ap, ◌∙◌, arith}
use Rattle.std.specs.Option.{option_or}
use Rattle.aml_names.specs.declared.segments.Seg.{Seg}
use Rattle.aml_names.specs.Paths.{PathSet}
use Rattle.aml_names.specs.Searching.{upward}
use Rattle.aml_namespace.specs.Namespace.{Namespace, first_count}
use Rattle.aml_children.proofs.Basics.{or_none}
use Rattle.aml_namespace.proofs.Upward.{later, candidate, later_above, skip_all}

module _ (n : Namespace) (locals : PathSet) (count : List Seg → Option ℕ) (scope tail : List Seg) where
  pub here_counts : (d x : ℕ) → count (take d scope ++ tail) ≡ Some x → first_count count (upward d scope tail) ≡ Some x
  here_counts d x got = ap (first_count count) (candidate n locals scope tail d)
      ∙ ap (λ o. option_or o (first_count count (later n locals scope tail d))) got

  pub above_counts : (d : ℕ) → count (take d scope ++ tail) ≡ None → 0 < d
      → first_count count (upward d scope tail) ≡ first_count count (upward (d - 1) scope tail)
  above_counts d none positive = ap (first_count count) (candidate n locals scope tail d)
      ∙ ap (λ o. option_or o (first_count count (later n locals scope tail d))) none
      ∙ ap (first_count count) (later_above n locals scope tail d positive)

  -- depths without one may be left out
  pub skip_counts : (m d : ℕ) → m ≤ d → ((e : ℕ) → m < e → e ≤ d → count (take e scope ++ tail) ≡ None) →
      first_count count (upward d scope tail) ≡ first_count count (upward m scope tail)
  skip_counts m d less mute = skip_all n locals scope tail (first_count count) m d less
      (λ e more to. above_counts e (mute e more to) (omega (arith, more)))

  pub root_counts : count (take 0 scope ++ tail) ≡ None → first_count count (upward 0 scope tail) ≡ None
  root_counts none = ap (λ o. option_or o None) none

-- that of one path alone
pub only_count : (count : List Seg → Option ℕ) (p : List Seg) → count p ≡ first_count count (p ∷ [])
only_count count p = sym (or_none (count p))
