-- Names of one scope stand in one group: a group more (`group_more`); and groups keep their scopes where numbers stand for
-- the same paths (`still_known`, `same_uses`).
use Rattle.std.proofs.lemmas.List.{flat_map_more}
use Rattle.std.proofs.lemmas.Option.{slice_get_within, get_or_from_slice_get}
use Rattle.std.proofs.Common.{◌≡◌, ◌<◌, List, [], ◌∷◌, ◌++◌, length, refl, sym, ap, ap₂}
use Rattle.aml_namespace.specs.Known.{Known, path_at}
use Rattle.aml_set.proofs.MethodLaws.{Keeps, still_at}
use Rattle.aml_load.specs.declared.groups.Group.{Group}
use Rattle.aml_load.specs.Groups.{AreKnown, group_uses, named_in, uses_of}
use Rattle.aml_load.specs.Declaring.{Use}

module _ (k : Known) where
  pub group_more : (gs : List Group) (g : Group) → uses_of k (gs ++ g ∷ []) ≡ uses_of k gs ++ group_uses k g
  group_more gs g = sym (flat_map_more (group_uses k) [] gs g)

  pub known_front : (gs : List Group) (g : Group) → AreKnown k (gs ++ g ∷ []) → AreKnown k gs × (g.scope < length k.paths)
  known_front [] g all = (tt, all.0)
  known_front (first ∷ gs) g all = let rest = known_front gs g all.1 in ((all.0, rest.0), rest.1)

module _ (old new : Known) (keeps : Keeps old new) where
  pub still_known : (gs : List Group) → AreKnown old gs → AreKnown new gs
  still_known [] all = tt
  still_known (g ∷ gs) all = (slice_get_within new.paths g.scope _ (still_at old new keeps g.scope all.0), still_known gs all.1)

  pub same_uses : (gs : List Group) → AreKnown old gs → uses_of new gs ≡ uses_of old gs
  same_uses [] all = refl
  same_uses (g ∷ gs) all =
      let path : path_at new g.scope ≡ path_at old g.scope =
      get_or_from_slice_get new.paths g.scope _ [] (still_at old new keeps g.scope all.0) in
      ap₂ (λ (a b : List Use). a ++ b) (ap (λ p. named_in p g.names.items) path) (same_uses gs all.1)
