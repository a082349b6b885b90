-- What is known of a path, by its node (`kind_of_met`, `out_of_met`, `count_of_met`), and what the tests of a candidate
-- say of its path (`meant_path`, `outside_path`).
use Rattle.std.proofs.Common.{◌≡◌, ℕ, zero, suc, Bool, true, false, cond, List, ◌++◌, take, Option, Some, None, IfSome}
use Rattle.std.proofs.Common.{is_some, refl, sym, ap, ◌∙◌, arith}
use Rattle.std.specs.Prelude.{◌||◌}
use Rattle.std.specs.Option.{option_or, option_and_then, option_map}
use Rattle.std.specs.FinMap as map
use Rattle.aml_names.specs.declared.segments.Seg.{Seg}
use Rattle.aml_names.specs.Paths.{PathSet}
use Rattle.aml_names.specs.Searching.{upward}
use Rattle.aml_namespace.specs.Kinds.{Kind}
use Rattle.aml_space.specs.declared.nodes.Node.{Node}
use Rattle.aml_space.specs.declared.scopes.Candidate.{Candidate}
use Rattle.aml_namespace.specs.Predefined.{predefined}
use Rattle.aml_namespace.specs.Namespace.{Namespace, kind_at, count_at, count_of_kind, decides, is_outside}
use Rattle.aml_namespace.specs.Known.{namespace_in}
use Rattle.aml_namespace.specs.Runs.{is_known}
use Rattle.aml_children.specs.Numbered.{walk}
use Rattle.aml_space.specs.Nodes.{kids_of, kinds_of, declared_of, outs_of, givens_of, said_by, known_by, IsShape}
use Rattle.aml_space.specs.Nodes.{content_of, aside_of}
use Rattle.aml_space.specs.declared.walking.Aside.{Aside}
use Rattle.aml_space.specs.Candidates.{path_at, aside_in, IsCandidate}
use Rattle.aml_children.proofs.Basics.{cond_of}
use Rattle.aml_space.proofs.Index.{part_at, kind_at_path}
use Rattle.aml_namespace.proofs.Upward.{rest_of}

module _ (ns : List Node) (shape : IsShape ns) (p : List Seg) (node : Option ℕ) (met : node ≡ walk (kids_of ns) 0 p) where
  pub kind_of_met : (standing : Option Kind) → standing ≡ predefined p
      → option_or (option_and_then (kinds_of ns) node) standing
      ≡ kind_at (namespace_in (known_by ns)) p
  kind_of_met standing is = ap (λ o. option_or (option_and_then (kinds_of ns) o) standing) met ∙ (λ i. option_or (kind_at_path ns shape p i) (is i))

  pub declared_there : option_and_then (declared_of ns) node ≡ map.get (known_by ns).declarations p
  declared_there = ap (option_and_then (declared_of ns)) met ∙ part_at (said_by ns) ns shape p

  pub out_of_met : option_and_then (outs_of ns) node ≡ map.get (known_by ns).outs p
  out_of_met = ap (option_and_then (outs_of ns)) met ∙ part_at (λ c. c.out) ns shape p

  pub aside_of_met : (a : Aside) → option_and_then (λ i. aside_of a (content_of ns i)) node
      ≡ aside_in a (namespace_in (known_by ns)) p
  aside_of_met Aside.External = out_of_met
  aside_of_met Aside.Given = ap (option_and_then (givens_of ns)) met ∙ part_at (λ c. c.given) ns shape p

  pub known_of_met : (standing : Option Kind) → standing ≡ predefined p →
      (is_some (option_or (option_and_then (kinds_of ns) node) standing) || is_some (option_and_then (outs_of ns) node))
      ≡ is_known (namespace_in (known_by ns)) p
  known_of_met standing is = λ i. is_some (kind_of_met standing is i) || is_some (out_of_met i)

  pub count_of_met : (standing : Option Kind) → standing ≡ predefined p →
      count_of_kind (namespace_in (known_by ns)) (option_or (option_and_then (kinds_of ns) node) standing) (option_and_then (outs_of ns) node)
      ≡ count_at (namespace_in (known_by ns)) p
  count_of_met standing is = λ i. count_of_kind (namespace_in (known_by ns)) (kind_of_met standing is i) (out_of_met i)

-- the tests of a candidate that is no local are those of its path
module _ (ns : List Node) (locals : PathSet) (scope segment : List Seg) (shape : IsShape ns) (c : Candidate) (is : IsCandidate ns locals scope segment c)
    (other : c.local ≡ false) where
  pub meant_path : is_some (kind_at (namespace_in (known_by ns)) (take c.depth scope ++ segment))
      ≡ decides (namespace_in (known_by ns)) locals (take c.depth scope ++ segment)
  meant_path = ap (λ b. b || is_some (kind_at (namespace_in (known_by ns)) (take c.depth scope ++ segment))) (sym other ∙ is.local)

  pub outside_path : is_some (option_and_then (outs_of ns) c.node) ≡ is_outside (namespace_in (known_by ns)) (take c.depth scope ++ segment)
  outside_path = ap is_some (out_of_met ns shape (take c.depth scope ++ segment) c.node (is.node other))

-- the depth of the first that an External names
pub outside_depth : (outside : Option Candidate) (out : Bool) (c : Candidate)
    → option_map (λ (c : Candidate). c.depth) (option_or outside (cond out (Some c) None))
    ≡ option_or (option_map (λ (c : Candidate). c.depth) outside) (cond out (Some c.depth) None)
outside_depth None true c = refl
outside_depth None false c = refl
outside_depth (Some d) out c = refl

pub outside_still : (P : Candidate → Type 0) (outside : Option Candidate) (out : Bool) (c : Candidate)
    → IfSome outside P → P c
    → IfSome (option_or outside (cond out (Some c) None)) P
outside_still P None true c all is = is
outside_still P None false c all is = tt
outside_still P (Some d) out c all is = all

-- the search ends at the root
pub ended : (k : Namespace) (locals : PathSet) (scope segment : List Seg) (outside : Option Candidate) (d : ℕ) (at : Option ℕ) (local : Bool) → d ≡ 0
    → decides k locals (take d scope ++ segment) ≡ false →
    rest_of k locals scope segment (option_map (λ (c : Candidate). c.depth) outside) (upward d scope segment)
    ≡ option_map (path_at scope segment)
    (option_or outside (cond (is_outside k (take d scope ++ segment)) (Some (record { depth = d; node = at; local = local })) None))
ended k locals scope segment None zero at local root fails =
    ap (λ b. option_or (cond b (Some segment) None) (cond (is_outside k segment) (Some segment) None)) fails
    ∙ sym (cond_of (option_map (path_at scope segment)) (is_outside k segment) _ None)
ended k locals scope segment (Some c) zero at local root fails =
    ap (λ b. option_or (cond b (Some segment) None) (Some (take c.depth scope ++ segment))) fails
ended k locals scope segment outside (suc d) at local root fails = absurd (omega (arith, root))
