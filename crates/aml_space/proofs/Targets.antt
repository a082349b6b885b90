-- What declarations say with the paths of Aliases' targets stays where more nodes come (`said_grown`), since each target
-- is among those that are there (`among_more`, `among_again`); so does one declaration more (`said_again`). The path of a
-- number is its node's (`path_read`).
use Rattle.std.specs.Prelude.{get_or}
use Rattle.std.proofs.Common.{◌≡◌, ℕ, ◌+◌, ◌<◌, ◌≤◌, Bool, true, false, cond, List, [], ◌∷◌, ◌++◌, length, take, drop, map as map_list}
use Rattle.std.proofs.Common.{refl, sym, ap, ◌∙◌, arith}
use Rattle.std.specs.List.{AllByRecursion}
use Rattle.std.proofs.lemmas.List.{map-append, take-append-drop}
use Rattle.std.proofs.lemmas.List.FromFn.{fill_by_all, get_or-map-range_with_len, length-map-range_with_len}
use Rattle.std.proofs.lemmas.List.FromFn.{take-map-range_with_len}
use Rattle.aml_names.specs.declared.segments.Seg.{Seg}
use Rattle.aml_namespace.specs.declared.kinds.Kind.{Kind as KindOf}
use Rattle.aml_namespace.specs.declared.kinds.Kind.TheVariants.{Alias}
use Rattle.aml_namespace.specs.Kinds.{kind_in, IsAmong}
use Rattle.aml_namespace.specs.Known.{Said, again}
use Rattle.aml_namespace.proofs.Aimed.{kind_grown, kinds_grown}
use Rattle.aml_space.specs.declared.nodes.Node.{Node}
use Rattle.aml_space.specs.Nodes.{path_of, paths_in, said_in, AreAmong}

-- as many paths as nodes, each its node's
pub paths_long : (ns : List Node) → length (paths_in ns) ≡ length ns
unfolding paths_in
paths_long ns = length-map-range_with_len (path_of ns) 0 (length ns)

pub path_read : (ns : List Node) (i : ℕ) → i < length ns → get_or (paths_in ns) i [] ≡ path_of ns i
unfolding paths_in
path_read ns i within = get_or-map-range_with_len (path_of ns) 0 (length ns) i i [] within (omega arith)

-- where nodes keep their paths, they keep their numbers
pub grown_paths : (old new : List Node) → length old ≤ length new → ((i : ℕ) → i < length old → path_of new i ≡ path_of old i)
    → paths_in new ≡ paths_in old ++ drop (length old) (paths_in new)
unfolding paths_in
grown_paths old new long still =
    let n = length old in
    let front : take n (paths_in new) ≡ paths_in old = take-map-range_with_len (path_of new) 0 (length new) n long
    ∙ fill_by_all (path_of old) _ n [] (length-map-range_with_len (path_of new) 0 n) (λ i within.
    get_or-map-range_with_len (path_of new) 0 n i i [] within (omega arith) ∙ still i within) in
    sym (take-append-drop n (paths_in new)) ∙ ap (λ ps. ps ++ drop n (paths_in new)) front

-- more paths
pub said_grown : (paths more : List (List Seg)) (d : Said (KindOf ℕ)) → AreAmong (length paths) d
    → said_in (paths ++ more) d ≡ said_in paths d
said_grown paths more d among = λ i. record {
  kind = kind_grown paths more d.kind among.0 i;
  others = kinds_grown paths more d.others among.1 i;
  sure = d.sure;
  times = d.times;
}

-- one declaration more
pub said_again : (paths : List (List Seg)) (d : Said (KindOf ℕ)) (kind : KindOf ℕ) (sure : Bool)
    → said_in paths (again d kind sure) ≡ again (said_in paths d) (kind_in paths kind) sure
said_again paths d kind sure = λ i. record {
  kind = kind_in paths d.kind;
  others = by d.sure i;
  sure = (again (said_in paths d) (kind_in paths kind) sure).sure;
  times = d.times + 1;
}
  where
    by : (b : Bool) → map_list (kind_in paths) (cond b d.others (d.others ++ kind ∷ []))
        ≡ cond b (map_list (kind_in paths) d.others) (map_list (kind_in paths) d.others ++ kind_in paths kind ∷ [])
    by true = refl
    by false = map-append (kind_in paths) d.others (kind ∷ [])

more_of : (m n : ℕ) → m ≤ n → (k : KindOf ℕ) → IsAmong m k → IsAmong n k
more_of m n less (Alias is_open target) within = omega (arith, less, within)
more_of m n less _ within = within

pub among_more : (m n : ℕ) → m ≤ n → (d : Said (KindOf ℕ)) → AreAmong m d → AreAmong n d
among_more m n less d among = (more_of m n less d.kind among.0, each d.others among.1)
  where
    each : (ks : List (KindOf ℕ)) → AllByRecursion (IsAmong m) ks → AllByRecursion (IsAmong n) ks
    each [] within = tt
    each (k ∷ ks) within = (more_of m n less k within.0, each ks within.1)

pub among_again : (n : ℕ) (d : Said (KindOf ℕ)) (kind : KindOf ℕ) (sure : Bool) → AreAmong n d → IsAmong n kind
    → AreAmong n (again d kind sure)
among_again n d kind sure among within = (among.0, by d.sure)
  where
    last : (ks : List (KindOf ℕ)) → AllByRecursion (IsAmong n) ks → AllByRecursion (IsAmong n) (ks ++ kind ∷ [])
    last [] all = (within, tt)
    last (k ∷ ks) all = (all.0, last ks all.1)

    by : (b : Bool) → AllByRecursion (IsAmong n) (cond b d.others (d.others ++ kind ∷ []))
    by true = among.1
    by false = last d.others among.1
