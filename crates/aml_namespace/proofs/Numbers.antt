-- What is known with paths more that have numbers (`Grows`): none more (`grows_not`); each number has its path still
-- (`still_at`, `still_path`).
use Rattle.std.proofs.Common.{◌≡◌, ℕ, zero, suc, ◌<◌, List, [], ◌∷◌, ◌++◌, length, Some, sym, ap, ◌∙◌, length-append, arith}
use Rattle.std.proofs.lemmas.List.{append-nil, get_or_append_left}
use Rattle.std.proofs.lemmas.Option.{none-some}
use Rattle.std.specs.Prelude.{slice_get}
use Rattle.aml_names.specs.declared.segments.Seg.{Seg}
use Rattle.aml_namespace.specs.Known.{Known, Grows, StandsAt, with_paths, path_at}

pub grows_not : (k : Known) → Grows k k
grows_not k = ([], ap (with_paths k) (sym (append-nil k.paths)))

-- what is read of a list is read of a longer one
read_still : (xs ys : List (List Seg)) (i : ℕ) (p : List Seg) → slice_get xs i ≡ Some p → slice_get (xs ++ ys) i ≡ Some p
read_still [] ys i p at = absurd (none-some p at)
read_still (x ∷ xs) ys zero p at = at
read_still (x ∷ xs) ys (suc i) p at = read_still xs ys i p at

pub still_at : (old new : Known) (id : ℕ) (p : List Seg) → Grows old new → StandsAt old id p → StandsAt new id p
still_at old new id p (more, is) at = ap (λ (k : Known). slice_get k.paths id) is ∙ read_still old.paths more id p at

pub still_among : (old new : Known) (id : ℕ) → Grows old new → id < length old.paths → id < length new.paths
still_among old new id (more, is) within =
    omega (arith, within, ap (λ (k : Known). length k.paths) is, length-append old.paths more)

pub still_path : (old new : Known) (id : ℕ) → Grows old new → id < length old.paths → path_at new id ≡ path_at old id
still_path old new id (more, is) within = ap (λ (k : Known). path_at k id) is ∙ get_or_append_left old.paths more [] id within
