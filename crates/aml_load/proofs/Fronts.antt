-- A term whose code may run, of which its pieces were heard: what is known of it then.
use Rattle.std.proofs.Common.{◌≡◌, ℕ, true, [], ◌∷◌, cond, Option, None, Some, option_map, refl, unwrap_or, length, ◌<◌, sym, ap, subst, ◌∙◌}
use Rattle.aml_code.specs.Pieces.{pieces}
use Rattle.aml_code.specs.Tree.{Tree}
use Rattle.aml_namespace.specs.Known.{Known}
use Rattle.aml_load.specs.Declaring.{Listed, term_uses}
use Rattle.aml_load.specs.Front.{HasBegunAt, IsHeard}
use Rattle.aml_load.specs.Groups.{AreKnown, uses_of}
use Rattle.aml_load.specs.Hearing.{Head, Heard, catch_all, head_at, head_enters, is_block, run, with_more}
use Rattle.aml_load.specs.HearingViews.{AreNumbered, Goes, IsNumbered, IsHeadNumbered, head_view, heard_in, stack_view}
use Rattle.std.specs.List.{AllByRecursion}
use Rattle.std.specs.Option.{option_copied}
use Rattle.aml_load.specs.Loading.{Where}
use Rattle.aml_load.specs.Opening.{tail_of}
use Rattle.aml_load.specs.Runner.{span_inside}
use Rattle.aml_load.specs.Running.{asked}
use Rattle.aml_load.specs.Walking.{at_site}
use Rattle.aml_load.specs.declared.ears.Ears.{Ears}
use Rattle.aml_load.specs.declared.ears.Head.{Head as KeptHead}
use Rattle.aml_load.specs.declared.opening.Opened.{Opened}
use Rattle.aml_load.specs.declared.sites.Site.{Site}
use denote.Ref.{Bor}
use Rattle.aml_load.proofs.HearingLaws.{run_caught, run_enters, run_inside}

pub begun_numbered : (k : Known) (e : Ears) (s : Site) → HasBegunAt e s → s.scope < length k.paths → AreNumbered k e
begun_numbered k e s begun within = record {
  head = subst (IsHeadNumbered k) (sym begun.0) tt;
  around = subst (AllByRecursion (IsNumbered k)) (sym begun.1.0) (within, tt);
  uses = subst (AreKnown k) (sym begun.1.1) tt;
}

-- a head that was lent
pub views : (k : Known) (head : Option (Bor KeptHead)) → option_map (λ h. head_view k h.now) head ≡ option_map (head_view k) (option_copied head)
views k None = refl
views k (Some h) = refl

abbrev nothing_listed : Listed
nothing_listed = record { entries = []; uses = [] }

module _ (k : Known) (a b : Ears) (s : Site) (level : ℕ) (t : Tree) (begun : HasBegunAt a s) (goes : Goes k a b (catch_all (pieces level t))) where
  abbrev w : Where
  w = at_site k s

  abbrev all_heard : Heard
  all_heard = record { listed = with_more nothing_listed (term_uses w t); term = head_at w t; around = run w ∷ [] }

  all : heard_in k nothing_listed b ≡ all_heard
  all = goes.heard nothing_listed
      ∙ (λ i. catch_all (pieces level t) (record {
        listed = with_more nothing_listed (uses_of k (begun.1.1 i));
        term = option_map (head_view k) (begun.0 i);
        around = stack_view k (begun.1.0 i);
      }))
      ∙ run_caught level t nothing_listed w []

  pub head_heard : option_map (head_view k) b.head ≡ head_at w t
  head_heard = ap (λ (x : Heard). x.term) all

  pub uses_heard : uses_of k b.uses.items ≡ term_uses w t
  uses_heard = ap (λ (x : Heard). x.listed.uses) all

  pub inside_heard : cond (is_block (option_map (head_view k) b.head)) (tail_of t) None ≡ span_inside t
  inside_heard = ap (λ (h : Option Head). cond (is_block h) (tail_of t) None) head_heard ∙ run_inside w t

  pub heard_front : (o : Opened) → s.any_run ≡ true → o.tail ≡ tail_of t → IsHeard k s b o t
  heard_front o runs tail = record {
    uses = uses_heard;
    enters = λ f site.
        (λ i. head_enters (head_heard i) (asked f t) (unwrap_or (tail i) (0, 0)))
        ∙ ap (λ (v : Where). head_enters (head_at v t) (asked f t) (unwrap_or (tail_of t) (0, 0))) (sym site)
        ∙ run_enters f t (ap (λ (v : Where). v.any_run) site ∙ runs);
    inside = ap (λ (x : Option (ℕ × ℕ)). cond (is_block (option_map (head_view k) b.head)) x None) tail ∙ inside_heard;
  }
