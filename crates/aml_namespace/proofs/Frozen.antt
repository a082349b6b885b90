-- Further declarations change nothing at a path that has a sure one.
use Rattle.std.specs.Prelude.{◌||◌, ◌&&◌}
use Rattle.std.proofs.Common.{◌≡◌, Bool, true, false, cond, List, [], ◌∷◌, refl, ap}
use Rattle.std.proofs.lemmas.Bool.{false≢true}
use Rattle.aml_namespace.specs.Kinds.{Kind}
use Rattle.aml_namespace.specs.Namespace.{Entry, declares, external, given, same_path}
use Rattle.aml_namespace.specs.Runs.{surely_declared, SureStays}

still : (same sure more : Bool) (k : Kind) (old new : List Kind) → ((same && sure) || more) ≡ true
    → (more ≡ true → new ≡ old)
    → cond same (k ∷ cond sure [] new) new ≡ cond same (k ∷ cond sure [] old) old
still true true more k old new h rest = refl
still true false more k old new h rest = ap (λ ks. k ∷ ks) (rest h)
still false sure more k old new h rest = rest h

pub sure_stays : (es : List Entry) → SureStays es
sure_stays [] more q h = absurd (false≢true h)
sure_stays (declares p k b sure ∷ es) more q h = still (same_path q p) sure (surely_declared es q) k _ _ h (sure_stays es more q)
sure_stays (external p n ∷ es) more q h = sure_stays es more q h
sure_stays (given p n ∷ es) more q h = sure_stays es more q h
