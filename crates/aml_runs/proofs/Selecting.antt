-- A selection of entries that grow at their end: what is declared too (`declared_too`), what is passed over
-- (`passed_over`), and what is an open Alias (`aimed_too`).
use Rattle.std.specs.Prelude.{◌||◌}
use Rattle.std.proofs.Common.{◌≡◌, Bool, true, false, not, cond, List, [], ◌∷◌, ◌++◌, Option, None, is_some, refl, sym}
use Rattle.std.proofs.Common.{ap, ◌∙◌}
use Rattle.std.proofs.lemmas.Bool.{false≢true}
use Rattle.aml_names.specs.declared.segments.Seg.{Seg}
use Rattle.aml_namespace.specs.Kinds.{Kind}
use Rattle.aml_namespace.specs.declared.kinds.Kind.TheVariants.{Alias}
use Rattle.aml_namespace.specs.Namespace.{Entry, Body, declares, declared_at, Namespace, namespace_of, kind_at}
use Rattle.aml_namespace.specs.Runs.{may_miss, sure_at}
use Rattle.aml_namespace.proofs.Growing.{run_taken, run_missed, run_aimed, declaring, declared_more, declared_twice}
use Rattle.aml_namespace.proofs.Growing.{sure_stands}
use Rattle.aml_load.specs.Loading.{parent_of}
use Rattle.aml_runs.specs.TableRuns.{is_passed, with_path, gained, IsSelection}

-- an entry that a run may be without
pub missed : (es n : List Entry) (e : Entry) → may_miss e ≡ true → IsSelection es n → IsSelection (es ++ e ∷ []) n
missed es n e may s = record { kept = s.kept; run = run_missed s.run e may; same = s.same }

-- what is sure stands there
pub stands_above : (es n : List Entry) (q : List Seg) → IsSelection es n → sure_at es q ≡ true
    → is_some (kind_at (namespace_of n) q) ≡ true
stands_above es n q s sure =
    ap (λ (m : Namespace). is_some (kind_at m q)) s.same ∙ sure_stands es s.kept s.run q sure

module _ (p : List Seg) where
  declared_both : (n kept : List Entry) (k : Kind) (b : Option Body) (sure : Bool)
      → namespace_of n ≡ namespace_of kept
      → namespace_of (with_path n p k) ≡ namespace_of (kept ++ declares p k b sure ∷ [])
  declared_both n kept k b sure same =
      declared_more p k None true n ∙ ap (λ (m : Namespace). declaring m p k) same ∙ sym (declared_more p k b sure kept)

  -- an entry that is declared too
  pub declared_too : (es n : List Entry) (k : Kind) (b : Option Body) (sure : Bool) → IsSelection es n
      → IsSelection (es ++ declares p k b sure ∷ []) (with_path n p k)
  declared_too es n k b sure s = record {
    kept = s.kept ++ declares p k b sure ∷ [];
    run = run_taken s.run (declares p k b sure);
    same = declared_both n s.kept k b sure s.same;
  }

  pub aimed_too : (es n : List Entry) (target other : List Seg) (b : Option Body) (sure : Bool) → IsSelection es n
      → IsSelection (es ++ declares p (Alias true target) b sure ∷ []) (with_path n p (Alias false other))
  aimed_too es n target other b sure s = record {
    kept = s.kept ++ declares p (Alias false other) b sure ∷ [];
    run = run_aimed s.run p target other b sure;
    same = declared_both n s.kept (Alias false other) b sure s.same;
  }

  -- one of a path that is declared already
  declared_again : (es n : List Entry) (k : Kind) (b : Option Body) (sure : Bool) → is_some (declared_at n p) ≡ true
      → IsSelection es n → IsSelection (es ++ declares p k b sure ∷ []) n
  declared_again es n k b sure there s = record {
    kept = s.kept ++ declares p k b sure ∷ [];
    run = run_taken s.run (declares p k b sure);
    same = s.same ∙ sym (declared_more p k b sure s.kept
        ∙ declared_twice (namespace_of s.kept) p k (sym (ap (λ (m : Namespace). is_some (m.declared p)) s.same) ∙ there));
  }

  -- one that is passed over, and is sure only where the path above it is
  pub passed_over : (es n : List Entry) (k : Kind) (b : Option Body) (sure : Bool)
      → (sure ≡ true → sure_at es (parent_of p) ≡ true) → is_passed n p ≡ true → IsSelection es n
      → IsSelection (es ++ declares p k b sure ∷ []) n
  passed_over es n k b sure above passed s = by (is_some (declared_at n p)) refl sure refl passed
    where
      by : (there : Bool) → is_some (declared_at n p) ≡ there → (c : Bool) → sure ≡ c
          → (there || not (is_some (kind_at (namespace_of n) (parent_of p)))) ≡ true
          → IsSelection (es ++ declares p k b sure ∷ []) n
      by true there c is passed = declared_again es n k b sure there s
      by false none true is passed =
          absurd (false≢true (sym (ap not (stands_above es n (parent_of p) s (above is))) ∙ passed))
      by false none false is passed = missed es n (declares p k b sure) (ap not is) s

  -- what is declared too, or passed over
  pub gained_too : (es n : List Entry) (k l : Kind) (b : Option Body) (sure : Bool)
      → (sure ≡ true → sure_at es (parent_of p) ≡ true) → IsSelection es n
      → IsSelection (es ++ declares p k b sure ∷ []) (with_path n p l)
      → IsSelection (es ++ declares p k b sure ∷ []) (gained n p l)
  gained_too es n k l b sure above s too = by (is_passed n p) refl
    where
      by : (passed : Bool) → is_passed n p ≡ passed
          → IsSelection (es ++ declares p k b sure ∷ []) (cond passed n (with_path n p l))
      by true passed = passed_over es n k b sure above passed s
      by false passed = too
