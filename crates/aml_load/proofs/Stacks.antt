-- What stands around, as the code keeps it, the nearest last; and where numbers stand for the same paths.
use Rattle.std.proofs.Common.{◌≡◌, ℕ, ◌+◌, ◌-◌, ◌<◌, List, [], ◌∷◌, ◌++◌, length, map, reverse, refl, sym, ap, ap₂, ◌∙◌}
use Rattle.std.proofs.Common.{arith, drop, take, get_or, set}
use Rattle.std.proofs.Math.ListN.{drop_of_length-le}
use Rattle.std.proofs.Math.Seq.{set-append_seam}
use Rattle.std.proofs.lemmas.List.{drop_more, take-append-drop, length-take-le, reverse-append, map-append}
use Rattle.std.specs.List.{AllByRecursion}
use Rattle.aml_namespace.specs.Known.{Known}
use Rattle.aml_load.specs.Hearing.{Around}
use Rattle.aml_load.specs.Hearing as Hearing
use Rattle.aml_load.specs.HearingViews.{around_view, stack_view, IsNumbered}
use Rattle.aml_load.specs.Walking.{KeepsPaths}
use Rattle.aml_load.specs.declared.ears.Around.{Around as KeptAround}
use Rattle.aml_load.specs.declared.ears.Around.TheVariants as kept
use Rattle.aml_load.proofs.Inside.{same_site, still_among}

module _ (k : Known) where
  pub one_on : (xs : List KeptAround) (x : KeptAround) → stack_view k (xs ++ x ∷ []) ≡ around_view k x ∷ stack_view k xs
  one_on xs x = ap reverse (map-append (around_view k) xs (x ∷ [])) ∙ reverse-append (map (around_view k) xs) (around_view k x ∷ [])

  pub all_on : (xs : List KeptAround) (x : KeptAround) → AllByRecursion (IsNumbered k) xs → IsNumbered k x
      → AllByRecursion (IsNumbered k) (xs ++ x ∷ [])
  all_on [] x all own = (own, tt)
  all_on (y ∷ xs) x all own = (all.0, all_on xs x all.1 own)

  pub all_off : (xs : List KeptAround) (x : KeptAround) → AllByRecursion (IsNumbered k) (xs ++ x ∷ [])
      → AllByRecursion (IsNumbered k) xs × IsNumbered k x
  all_off [] x all = (tt, all.0)
  all_off (y ∷ xs) x all = let rest = all_off xs x all.1 in ((all.0, rest.0), rest.1)

-- where numbers stand for the same paths, the sites are the same
module _ (old new : Known) (keeps : KeepsPaths old new) where
  same_around : (x : KeptAround) → IsNumbered old x → around_view new x ≡ around_view old x
  same_around (kept.Terms s) own = ap Hearing.terms (same_site old new keeps s own)
  same_around (kept.Run s) own = ap Hearing.run (same_site old new keeps s own)
  same_around (kept.Head o told) own = refl
  same_around (kept.Inner o told) own = refl
  same_around kept.Arguments own = refl
  same_around kept.Elements own = refl
  same_around kept.Units own = refl
  same_around kept.Nowhere own = refl

  still_around : (x : KeptAround) → IsNumbered old x → IsNumbered new x
  still_around (kept.Terms s) own = still_among old new keeps s.scope own
  still_around (kept.Run s) own = still_among old new keeps s.scope own
  still_around (kept.Head o told) own = tt
  still_around (kept.Inner o told) own = tt
  still_around kept.Arguments own = tt
  still_around kept.Elements own = tt
  still_around kept.Units own = tt
  still_around kept.Nowhere own = tt

  same_each : (xs : List KeptAround) → AllByRecursion (IsNumbered old) xs → map (around_view new) xs ≡ map (around_view old) xs
  same_each [] all = refl
  same_each (x ∷ xs) all = ap₂ (λ (a : Around) (b : List Around). a ∷ b) (same_around x all.0) (same_each xs all.1)

  pub same_stack : (xs : List KeptAround) → AllByRecursion (IsNumbered old) xs → stack_view new xs ≡ stack_view old xs
  same_stack xs all = ap reverse (same_each xs all)

  pub still_stack : (xs : List KeptAround) → AllByRecursion (IsNumbered old) xs → AllByRecursion (IsNumbered new) xs
  still_stack [] all = tt
  still_stack (x ∷ xs) all = (still_around x all.0, still_stack xs all.1)

-- a list of so many whose last is another one then
pub last_changed : {X : Type 0} → (xs : List X) (count : ℕ) (d y : X) → count ≡ length xs → 0 < count → (rest : List X)
    × ((xs ≡ rest ++ get_or xs (count - 1) d ∷ []) × (set xs (count - 1) y ≡ rest ++ y ∷ []))
last_changed xs count d y many some =
    let n = count - 1 in
    let rest = take n xs in
    let there : n < length xs = omega (arith, some, many) in
    let none : drop (n + 1) xs ≡ [] = drop_of_length-le xs (omega (arith, some, many)) in
    let cut : drop n xs ≡ get_or xs n d ∷ [] = drop_more xs n d there ∙ ap (λ ys. get_or xs n d ∷ ys) none in
    let whole : xs ≡ rest ++ get_or xs n d ∷ [] = sym (take-append-drop n xs) ∙ ap (λ ys. rest ++ ys) cut in
    let long : length rest ≡ n = length-take-le n xs (omega (arith, there)) in
    let last = get_or xs n d in
    (rest, (whole, ap (λ zs. set zs n y) whole ∙ sym (ap (λ m. set (rest ++ last ∷ []) m y) long) ∙ set-append_seam rest last [] y))
