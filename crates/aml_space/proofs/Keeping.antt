-- Paths that lead somewhere lead there also where other content comes to a node (`content_kept`), and by one step behind
-- another (`kept_on`); so numbers stand for the same paths (`more_paths`, `known_again`), and what is kept besides the
-- nodes stays right (`still_space`). A path's number is its node's (`numbered`).
use Rattle.std.specs.Prelude.{slice_get}
use Rattle.std.specs.FinMap as map
use Rattle.std.proofs.Common.{◌≡◌, ℕ, List, [], ◌++◌, Some, sym, ap, subst, ◌∙◌, length, drop, arith, ◌<◌}
use Rattle.std.proofs.Common.{Result, Ok, Err, OnOk, OnErr}
use Rattle.std.proofs.lemmas.Option.{slice_get-get_or}
use Rattle.aml_names.specs.declared.segments.Seg.{Seg}
use Rattle.aml_children.specs.Numbered.{walk}
use Rattle.aml_children.proofs.Walks.{node_range}
use Rattle.aml_namespace.specs.Known.{Known, Grows, with_paths}
use Rattle.aml_space.specs.declared.nodes.Node.{Node}
use Rattle.aml_space.specs.declared.ways.Ways.{Ways}
use Rattle.aml_space.specs.Nodes.{kids_of, known_by, known_in, path_of, paths_in, Content, HasContent, IsIndex, IsKept}
use Rattle.aml_space.specs.Spaces.{IsSpace}
use Rattle.aml_space.proofs.Named.{path_led}
use Rattle.aml_space.proofs.Stepping.{ways_kept}
use Rattle.aml_space.proofs.Targets.{grown_paths, path_read, paths_long}

-- other content of a node changes no way
pub content_kept : (old new : List Node) (i : ℕ) (x : Content) → HasContent old new i x → IsKept old new
content_kept old new i x has = record {
  there = λ q j led. same q ∙ led;
  back = λ q j within led. sym (same q) ∙ led;
  long = omega (arith, has.long);
}
  where
    same : (q : List Seg) → walk (kids_of new) 0 q ≡ walk (kids_of old) 0 q
    same q = λ t. walk (λ k. has.kids k t) 0 q

-- one step behind another
pub kept_on : (old new later : List Node) → IsKept old new → IsKept new later → IsKept old later
kept_on old new later one two = record {
  there = λ q j led. two.there q j (one.there q j led);
  back = λ q j within led. one.back q j within (two.back q j (omega (arith, within, one.long)) led);
  long = omega (arith, one.long, two.long);
}

-- a node has the same path where paths keep their nodes
pub still_path : (old new : List Node) → IsIndex old → IsIndex new → IsKept old new → (i : ℕ) → i < length old
    → path_of new i ≡ path_of old i
still_path old new was is kept i within = path_led new is (path_of old i) i (kept.there (path_of old i) i (was.there i within))

-- so a number stands for the same path
pub more_paths : (old new : List Node) → IsIndex old → IsIndex new → IsKept old new
    → paths_in new ≡ paths_in old ++ drop (length old) (paths_in new)
more_paths old new was is kept = grown_paths old new kept.long (still_path old new was is kept)

pub known_again : (old new : List Node) (k : Known) → IsIndex old → IsIndex new → IsKept old new
    → known_by new ≡ k → Grows (with_paths k (paths_in old)) (known_in new)
known_again old new k was is kept same =
    (drop (length old) (paths_in new), λ i. with_paths (same i) (more_paths old new was is kept i))

-- what is kept besides the nodes stays right
pub still_space : (old new : List Node) (before many : ℕ) (ways : Ways) → IsIndex new
    → IsKept old new → many ≡ length (map.entries (known_by new).declarations)
    → IsSpace old before ways → IsSpace new many ways
still_space old new before many ways index kept rows is = record {
  index = index;
  rows = rows;
  ways = ways_kept old new ways is.index kept is.ways;
}

-- the number of a node stands for the path that leads there
pub numbered : (ns : List Node) → IsIndex ns → (path : List Seg) (at : ℕ) → walk (kids_of ns) 0 path ≡ Some at
    → slice_get (paths_in ns) at ≡ Some path
numbered ns is path at led =
    let within = node_range is.shape path at led in
    slice_get-get_or (paths_in ns) at [] (subst (λ n. at < n) (sym (paths_long ns)) within)
    ∙ ap (λ p. Some p) (path_read ns at within ∙ path_led ns is path at led)

-- what holds where a call was refused, or wasn't
pub on_err : {R E X : Type 0} (r : Result R E) → X → OnErr r X
on_err (Ok x) is = tt
on_err (Err e) is = is

pub ok_then : {R E X Y : Type 0} (r : Result R E) → (X → Y) → OnOk r X → OnOk r Y
ok_then (Ok x) f is = f is
ok_then (Err e) f is = tt

pub err_then : {R E X Y : Type 0} (r : Result R E) → (X → Y) → OnErr r X → OnErr r Y
err_then (Ok x) f is = tt
err_then (Err e) f is = f is
