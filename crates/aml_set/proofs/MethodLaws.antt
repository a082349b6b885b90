-- Where numbers stand for the same paths, the methods that have them have the same paths (`same_methods`) and numbers
-- still (`still_numbered`), as one more does (`one_numbered`, `one_method`); and as many are kept (`as_many`).
use Rattle.std.proofs.Common.{◌≡◌, ℕ, ◌<◌, List, [], ◌∷◌, ◌++◌, length, refl, ap, ◌∙◌}
use Rattle.std.proofs.lemmas.List.{get_or_default, length-map, map_push}
use Rattle.std.proofs.lemmas.Option.{slice_get_read, slice_get_within, get_or_from_slice_get}
use Rattle.aml_names.specs.declared.segments.Seg.{Seg}
use Rattle.aml_namespace.specs.Known.{Known, StandsAt, path_at}
use Rattle.aml_set.specs.declared.methods.Method.{Method as Kept}
use Rattle.aml_set.specs.Methods.{Method, method_in, methods_in, AreNumbered}

-- each number stands for the path that it stood for
abbrev pub Keeps : Known → Known → Type 0
Keeps old new = (id : ℕ) (p : List Seg) → StandsAt old id p → StandsAt new id p

module _ (old new : Known) (keeps : Keeps old new) where
  pub still_at : (id : ℕ) → id < length old.paths → StandsAt new id (path_at old id)
  still_at id within = keeps id (path_at old id)
      (slice_get_read old.paths (length old.paths) id (path_at old id) refl within (get_or_default old.paths id [] (path_at old id) within))

  pub still_numbered : (ms : List Kept) → AreNumbered old ms → AreNumbered new ms
  still_numbered [] all = tt
  still_numbered (m ∷ ms) all =
      (slice_get_within new.paths m.path _ (still_at m.path all.0), still_numbered ms all.1)

  pub same_methods : (ms : List Kept) → AreNumbered old ms → methods_in new ms ≡ methods_in old ms
  same_methods [] all = refl
  same_methods (m ∷ ms) all =
      let path : path_at new m.path ≡ path_at old m.path =
      get_or_from_slice_get new.paths m.path _ [] (still_at m.path all.0) in
      λ i. record { path = path i; table = m.table; start = m.start; len = m.len; flags = m.flags } ∷ same_methods ms all.1 i

pub one_numbered : (k : Known) (ms : List Kept) (m : Kept) → m.path < length k.paths → AreNumbered k ms
    → AreNumbered k (ms ++ m ∷ [])
one_numbered k [] m within all = (within, tt)
one_numbered k (first ∷ ms) m within all = (all.0, one_numbered k ms m within all.1)

pub one_method : (k : Known) (ms : List Kept) (m : Kept) → methods_in k (ms ++ m ∷ []) ≡ methods_in k ms ++ method_in k m ∷ []
one_method k ms m = map_push (method_in k) ms m

pub as_many : (k : Known) (ms : List Kept) → length (methods_in k ms) ≡ length ms
as_many k ms = length-map ms (method_in k)
