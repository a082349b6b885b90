-- What a search passes over: a path that leads nowhere is unknown (`unknown_at`), and so are those of a segment between
-- one depth and the next that may have it (`of_up`, `of_through`, `none_known_below`, `none_met_below`).
use Rattle.std.specs.Prelude.{◌||◌}
use Rattle.std.proofs.Common.{◌≡◌, ℕ, ◌-◌, ◌<◌, ◌≤◌, false, List, ◌++◌, length, take, Option, None, is_some, inl, inr}
use Rattle.std.proofs.Common.{refl, sym, ap, subst, ◌∙◌, arith}
use Rattle.std.specs.FinMap as map
use Rattle.std.specs.FinSet as set
use Rattle.std.proofs.lemmas.Bool.{cases_lt}
use Rattle.std.specs.Option.{option_and_then, option_or}
use Rattle.aml_names.specs.declared.segments.Seg.{Seg}
use Rattle.aml_names.specs.Paths.{PathSet}
use Rattle.aml_space.specs.declared.nodes.Node.{Node}
use Rattle.aml_children.specs.Numbered.{walk}
use Rattle.aml_space.specs.Nodes.{Content, kids_of, content_of, part_by, said_by, known_by, IsShape}
use Rattle.aml_namespace.specs.Known.{declared_kind, namespace_in}
use Rattle.aml_namespace.specs.Namespace.{Namespace, kind_at, decides, is_outside}
use Rattle.aml_namespace.specs.Predefined.{predefined}
use Rattle.aml_space.specs.Candidates.{aside_in, IsUnknown, IsNextOf}
use Rattle.aml_space.specs.declared.walking.Aside.{Aside}
use Rattle.aml_children.proofs.Walks.{walk_none}
use Rattle.aml_space.proofs.Index.{part_at}
use Rattle.aml_namespace.proofs.NotPredefined.{predefined_deep}

-- nothing is known of a path that leads nowhere
pub unknown_at : (ns : List Node) → IsShape ns → (p : List Seg) (at : Option ℕ) → at ≡ walk (kids_of ns) 0 p → at ≡ None
    → IsUnknown (namespace_in (known_by ns)) p
unknown_at ns shape p at led none = record {
  declared = ap declared_kind (by (said_by ns));
  out = by (λ c. c.out);
  given = by (λ c. c.given);
}
  where
    by : {X : Type 0} (part : Content → Option X) → map.get (part_by part ns) p ≡ None
    by part = sym (part_at part ns shape p) ∙ ap (option_and_then (λ j. part (content_of ns j))) (sym led ∙ none)

-- what is said of a segment depth by depth
module _ (n : Namespace) (path segment : List Seg) where
  -- where nothing is known of it at a depth, the one above comes next
  pub of_up : (from next : ℕ) → 0 < next → IsNextOf n path segment from next → IsUnknown n (take next path ++ segment)
      → IsNextOf n path segment from (next - 1)
  of_up from next some is here = record {
    within = omega (arith, is.within);
    unknown = λ d above below. elim (cases_lt next d) [
      | inl further ↦ is.unknown d further below
      | inr up ↦ subst (λ m. IsUnknown n (take m path ++ segment)) {x = next} {y = d} (omega (arith, up, above, some)) here
    ];
  }

  -- one step behind another
  pub of_through : (from middle next : ℕ) → IsNextOf n path segment from middle → IsNextOf n path segment middle next
      → IsNextOf n path segment from next
  of_through from middle next one two = record {
    within = omega (arith, one.within, two.within);
    unknown = λ d above below. elim (cases_lt middle d) [
      | inl further ↦ one.unknown d further below
      | inr up ↦ two.unknown d above up
    ];
  }

  -- a depth between is next as well
  pub of_sooner : (from next m : ℕ) → next ≤ m → m ≤ from → IsNextOf n path segment from next
      → IsNextOf n path segment from m
  of_sooner from next m less within is =
      record { within = within; unknown = λ d above below. is.unknown d (omega (arith, above, less)) below }

  pub none_aside_below : (a : Aside) (d next : ℕ) → IsNextOf n path segment d next → (e : ℕ) → next < e → e ≤ d
      → aside_in a n (take e path ++ segment) ≡ None
  none_aside_below Aside.External d next is e more less = (is.unknown e more less).out
  none_aside_below Aside.Given d next is e more less = (is.unknown e more less).given

  module _ (one : length segment ≡ 1) where
    no_name : (d e : ℕ) → d ≤ length path → 0 < e → e ≤ d → predefined (take e path ++ segment) ≡ None
    no_name d e within some less =
        predefined_deep e path segment (λ root. omega (arith, root, some)) (omega (arith, less, within)) one

    pub none_known_below : (d next : ℕ) → d ≤ length path → IsNextOf n path segment d next → (e : ℕ) → next < e → e ≤ d
        → (kind_at n (take e path ++ segment) ≡ None) × (n.outs (take e path ++ segment) ≡ None)
    none_known_below d next within is e more less =
        let here = is.unknown e more less in
        let mute = no_name d e within (omega (arith, more)) less in
        ((λ i. option_or (here.declared i) (mute i)), here.out)

    pub none_met_below : (locals : PathSet) (d next : ℕ) → d ≤ length path → IsNextOf n path segment d next →
        ((e : ℕ) → next < e → e ≤ d → set.contains locals (take e path ++ segment) ≡ false) →
        (e : ℕ) → next < e → e ≤ d → (decides n locals (take e path ++ segment) ≡ false) × (is_outside n (take e path ++ segment) ≡ false)
    none_met_below locals d next within is no_local e more less =
        let here = is.unknown e more less in
        let mute = no_name d e within (omega (arith, more)) less in
        ((λ i. no_local e more less i || is_some (option_or (here.declared i) (mute i))), ap is_some here.out)

-- nor is anything behind one that leads nowhere
pub unknown_past : (ns : List Node) → IsShape ns → (p q : List Seg) → walk (kids_of ns) 0 p ≡ None
    → IsUnknown (namespace_in (known_by ns)) (p ++ q)
unknown_past ns shape p q none = unknown_at ns shape (p ++ q) _ refl (walk_none (kids_of ns) 0 p q none)
