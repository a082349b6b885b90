-- The upward search, depth by depth from the scope to the root. `rest_of` is what it finds from a depth on: a candidate
-- that decides ends it (`hit`), another is noted if an External names it (`step`), and depths with neither may be left
-- out (`skip`). The nearest local tells at which depths one stands (`nearest_tells`).
use Rattle.std.proofs.lemmas.Bool.{cases_lt, ne_eqb}
use Rattle.std.proofs.lemmas.Bool.Decides.{nat_tests}
use Rattle.std.proofs.Common.{◌≡◌, ℕ, zero, suc, ◌-◌, ◌≤◌, ◌<◌, Bool, true, false, cond, List, [], ◌∷◌, ◌++◌, take}
use Rattle.std.proofs.Common.{Option, Some, None, IfSome, inl, inr, refl, sym, ap, ◌∙◌, arith}
use Rattle.std.specs.List.{find}
use Rattle.std.specs.Option.{option_or, option_map}
use Rattle.aml_names.specs.declared.segments.Seg.{Seg}
use Rattle.aml_names.specs.Paths.{PathSet}
use Rattle.aml_names.specs.Searching.{upward, greatest}
use Rattle.aml_names.proofs.EndLaws.{greatest_within}
use Rattle.aml_namespace.specs.Namespace.{Namespace, decides, is_outside}
use Rattle.aml_namespace.specs.Searching.{stands_at}
use Rattle.aml_children.proofs.Basics.{or_none}

-- what the search finds from here on, where an External was met at a depth
abbrev pub rest_of : Namespace → PathSet → List Seg → List Seg → Option ℕ → List (List Seg) → Option (List Seg)
rest_of k locals scope tail outside paths =
    option_or (find (decides k locals) paths) (option_or (option_map (λ d. take d scope ++ tail) outside) (find (is_outside k) paths))

-- one depth more
tells_more : (n d : ℕ) (here there : Bool) (o : Option ℕ) → d ≤ suc n → (d ≡ suc n → there ≡ here)
    → IfSome o (λ m. m ≤ n)
    → (d ≤ n → IfSome o (λ m. m ≤ d) → there ≡ stands_at o d) → IfSome (cond here (Some (suc n)) o) (λ m. m ≤ d)
    → there ≡ stands_at (cond here (Some (suc n)) o) d
tells_more n d true there o within same less rest above = grind (arith, nat_tests)
tells_more n d false there None within same less rest above = elim (cases_lt d (suc n)) [
  | inl below ↦ rest (omega (arith, below)) tt
  | inr at ↦ same (omega (arith, at, within))
]
tells_more n d false there (Some m) within same less rest above = elim (cases_lt d (suc n)) [
  | inl below ↦ rest (omega (arith, below)) above
  | inr at ↦ same (omega (arith, at, within)) ∙ sym (ne_eqb m d (λ e. omega (arith, less, at, e)))
]

-- the nearest local tells of each depth from it on whether one stands there
pub nearest_tells : (passes : ℕ → Bool) (n : ℕ) (d : ℕ) → d ≤ n → IfSome (greatest passes n) (λ m. m ≤ d)
    → passes d ≡ stands_at (greatest passes n) d
nearest_tells passes zero d within above = root d (passes 0) (passes d) within (λ here. ap passes here) above
  where
    root : (d : ℕ) (here there : Bool) → d ≤ 0 → (d ≡ 0 → there ≡ here) → IfSome (cond here (Some 0) None) (λ m. m ≤ d)
        → there ≡ stands_at (cond here (Some 0) None) d
    root d true there within same above = grind (arith, nat_tests)
    root d false there within same above = same (omega (arith, within))
nearest_tells passes (suc n) d within above = tells_more n d (passes (suc n)) (passes d) (greatest passes n) within (λ here. ap passes here)
    (greatest_within passes n) (nearest_tells passes n d) above

module _ (k : Namespace) (locals : PathSet) (scope tail : List Seg) where
  at : ℕ → List Seg
  at d = take d scope ++ tail

  pub later : ℕ → List (List Seg)
  later zero = []
  later (suc n) = upward n scope tail

  -- the first candidate is the one at hand
  pub candidate : (d : ℕ) → upward d scope tail ≡ (take d scope ++ tail) ∷ later d
  unfolding later
  candidate zero = refl
  candidate (suc n) = refl

  pub later_above : (d : ℕ) → 0 < d → later d ≡ upward (d - 1) scope tail
  unfolding later
  later_above zero h = absurd (omega arith)
  later_above (suc n) h = ap (λ m. upward m scope tail) {x = n} {y = suc n - 1} (omega arith)

  -- the first candidate by the three tests
  by_tests : (d : ℕ) (outside : Option ℕ) (ps : List (List Seg)) (now out : Bool) (p : List Seg)
      → p ≡ take d scope ++ tail →
      option_or (cond now (Some p) (find (decides k locals) ps)) (option_or (option_map (λ e. take e scope ++ tail) outside)
      (cond out (Some p) (find (is_outside k) ps)))
      ≡ cond now (Some p) (rest_of k locals scope tail (option_or outside (cond out (Some d) None)) ps)
  by_tests d outside ps true out p is = refl
  by_tests d None ps false true p is = ap (λ q. option_or (find (decides k locals) ps) (Some q)) is
  by_tests d None ps false false p is = refl
  by_tests d (Some e) ps false out p is = refl

  one_step : (d : ℕ) (outside : Option ℕ) (p : List Seg) → p ≡ take d scope ++ tail →
      rest_of k locals scope tail outside (upward d scope tail)
      ≡ cond (decides k locals p) (Some p) (rest_of k locals scope tail (option_or outside (cond (is_outside k p) (Some d) None)) (later d))
  one_step d outside p is =
      ap (rest_of k locals scope tail outside) (candidate d ∙ ap (λ q. q ∷ later d) (sym is))
      ∙ by_tests d outside (later d) (decides k locals p) (is_outside k p) p is

  pub hit : (d : ℕ) (p : List Seg) (outside : Option ℕ) → p ≡ take d scope ++ tail → decides k locals p ≡ true
      → rest_of k locals scope tail outside (upward d scope tail) ≡ Some p
  hit d p outside is holds = one_step d outside p is ∙ ap (λ b. cond b (Some p)
      (rest_of k locals scope tail (option_or outside (cond (is_outside k p) (Some d) None)) (later d))) holds

  pub step : (d : ℕ) (p : List Seg) (outside : Option ℕ) → p ≡ take d scope ++ tail → decides k locals p ≡ false
      → 0 < d →
      rest_of k locals scope tail outside (upward d scope tail) ≡ rest_of k locals scope tail (option_or outside (cond (is_outside k p) (Some d) None))
      (upward (d - 1) scope tail)
  step d p outside is fails positive =
      one_step d outside p is ∙ ap (λ b. cond b (Some p) (rest_of k locals scope tail (option_or outside (cond (is_outside k p) (Some d) None)) (later d)))
      fails
      ∙ ap (rest_of k locals scope tail (option_or outside (cond (is_outside k p) (Some d) None))) (later_above d positive)

  -- depths that change nothing may be left out
  pub skip_all : {Y : Type 0} (F : List (List Seg) → Y) (m d : ℕ) → m ≤ d
      → ((e : ℕ) → m < e → e ≤ d → F (upward e scope tail) ≡ F (upward (e - 1) scope tail))
      → F (upward d scope tail) ≡ F (upward m scope tail)
  skip_all F m zero less same = ap (λ n. F (upward n scope tail)) {x = 0} {y = m} (omega (arith, less))
  skip_all F m (suc d) less same = elim (cases_lt m (suc d)) [
    | inl below ↦ same (suc d) below (omega arith) ∙ ap (λ e. F (upward e scope tail)) {x = suc d - 1} {y = d} (omega arith)
        ∙ skip_all F m d (omega (arith, below)) (λ e more to. same e more (omega (arith, to)))
    | inr here ↦ ap (λ n. F (upward n scope tail)) {x = suc d} {y = m} (omega (arith, here, less))
  ]

  -- such as have no local and no content
  pub skip : (m d : ℕ) (outside : Option ℕ) → m ≤ d →
      ((e : ℕ) → m < e → e ≤ d → (decides k locals (take e scope ++ tail) ≡ false) × (is_outside k (take e scope ++ tail) ≡ false)) →
      rest_of k locals scope tail outside (upward d scope tail) ≡ rest_of k locals scope tail outside (upward m scope tail)
  skip m d outside less mute = skip_all (rest_of k locals scope tail outside) m d less (λ e more to.
      let here = mute e more to in
      step e (take e scope ++ tail) outside refl here.0 (omega (arith, more))
      ∙ ap (λ o. rest_of k locals scope tail o (upward (e - 1) scope tail)) (ap (λ b. option_or outside (cond b (Some e) None)) here.1 ∙ or_none outside))
