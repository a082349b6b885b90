use Rattle.std.proofs.Common.{◌≡◌, [], Bool, true, false, not, ◌&&◌, is_some, List, Option, None, Ok, Err, Result, refl, sym, ap, ◌∙◌, inl}
use Rattle.std.specs.Prelude.{IfOk}
use Rattle.std.proofs.lemmas.Option.{slice_get_within, get_or_from_slice_get}
use Rattle.aml_names.specs.declared.segments.Seg.{Seg}
use Rattle.aml_namespace.specs.Kinds.{Kind, kind_in}
use Rattle.aml_namespace.specs.Known.{StandsAt}
use Rattle.aml_namespace.specs.Namespace.{declared_at}
use Rattle.aml_space.specs.Below.{path_below}
use Rattle.aml_load.specs.Declaring.{◌>>=◌, Listed, entry_at}
use Rattle.aml_load.specs.Loading.{Where, plain_entry, in_object, sure_here}
use Rattle.aml_load.specs.Runner.{front_at, Came, IsSiteOf}
use Rattle.aml_load.specs.Running.{Front, object_at}
use Rattle.aml_load.specs.Walking.{at_site, Holds, IsInside}
use Rattle.aml_load.specs.declared.faults.LoadFault.{LoadFault}
use Rattle.aml_load.specs.declared.sites.Site.{Site}
use Rattle.aml_load.specs.declared.walking.Progress.{Progress}
use Rattle.aml_load.proofs.Doing.{entry_is}
use Rattle.aml_load.proofs.Inside.{same_below}
use Rattle.aml_load.proofs.walking.Progress.enter_object.Goals as goal

-- a path that was declared where the code outside methods may not run wasn't declared before
new_there : (any : Bool) (declared : Option Kind) → (any ≡ false → declared ≡ None) → (any && is_some declared) ≡ is_some declared
new_there true declared new = refl
new_there false declared new = sym (ap is_some (new refl))

-- a site under a path
came : (r : Result Site LoadFault) (new : Progress) (here : Site) (sure : Bool) (p : List Seg) (m : Listed) (walk : Result Front LoadFault)
    → IsSiteOf r (λ scope. record here { scope = scope; sure = sure }) → IfOk r (λ inner. StandsAt new.space inner.scope p)
    → Holds new m → walk ≡ Ok (front_at (record { table = here.table; scope = p; any_run = here.any_run; sure = sure }) m)
    → Came new here r walk
came (Ok inner) new here sure p m walk site at holds is =
    let there = get_or_from_slice_get new.space.paths inner.scope p [] at in (
      ap (λ (s : Site). s.table) site,
      (
        m,
        holds,
        is ∙ sym (ap (λ (w : Where). Ok (front_at w m)) (ap (at_site new.space) site
            ∙ (λ i. record { table = here.table; scope = there i; any_run = here.any_run; sure = sure }))),
      ),
    )
came (Err e) new here sure p m walk site at holds is = inl site

inside : (r : Result Site LoadFault) (new : Progress) (p : List Seg) → IfOk r (λ inner. StandsAt new.space inner.scope p) → IfOk r (IsInside new)
inside (Ok inner) new p at = slice_get_within new.space.paths inner.scope p at
inside (Err e) new p at = tt

runs : (r : Result Site LoadFault) (here : Site) (sure : Bool) → IsSiteOf r (λ scope. record here { scope = scope; sure = sure })
    → IfOk r (λ inner. inner.any_run ≡ here.any_run)
runs (Ok inner) here sure is = ap (λ (s : Site). s.any_run) is
runs (Err e) here sure is = tt

pub returns-clause-runs : goal.returns-clause-runs
returns-clause-runs c = runs c.under.result c.args.here.now c.is_sure_inside-sure.result c.under.ensures.site

pub returns-clause-within : goal.returns-clause-within
returns-clause-within c = inside c.under.result c.under.new.progress _ c.under.ensures.at

pub returns-clause-comes : goal.returns-clause-comes
unfolding object_at
returns-clause-comes c l h =
    let old = c.args.self.now.space in
    let mid = c.declare.new.self.space in
    let here = c.args.here.now in
    let site = at_site old here in
    let path = c.in_ok-path.path in
    let p = path_below old.paths path in
    let kind = kind_in [] c.args.kind in
    let declared = c.in_ok-declare.ensures.walks l h in
    let there : path_below mid.paths path ≡ p = same_below old mid c.in_ok-declare.ensures.stays path c.in_ok-path.ensures.below in
    let new = entry_is site l p (plain_entry site l.entries kind p) declared.0 declared.2 in
    let sure : c.is_sure_inside-sure.result ≡ (in_object site l.entries p).sure =
    c.is_sure_inside-sure.ensures l h.space
    ∙ ap (λ (b : Bool). sure_here site l.entries p && not b) (new_there here.any_run (declared_at l.entries p) new.0) in
    let step : Result Listed LoadFault → Result Front LoadFault =
    λ r. r >>= λ m. Ok (front_at (in_object site l.entries p) m) in
    let walked : object_at (front_at site l) _ kind ≡ Ok (front_at (in_object site l.entries p) declared.0) =
    ap (λ (r : Result (List Seg) LoadFault). r >>= λ p. entry_at site l p (plain_entry site l.entries kind p)
    >>= λ m. Ok (front_at (in_object site l.entries p) m)) c.in_ok-path.ensures.gives
    ∙ ap step declared.2 in
    came c.under.result c.under.new.progress here c.is_sure_inside-sure.result p declared.0 _
    c.under.ensures.site (rw there at c.under.ensures.at) (c.under.ensures.holds declared.0 declared.1)
    (walked ∙ ap (λ (b : Bool). Ok (front_at (record { table = here.table; scope = p; any_run = here.any_run; sure = b }) declared.0)) (sym sure))
