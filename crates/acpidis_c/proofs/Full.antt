-- A handle that is full has a state.
use Rattle.std.proofs.Common.{◌≡◌, refl, sym, true≢false}
use Rattle.std.specs.Prelude.{Option, Some, None, true, is_some}

pub some_of : {A : Type 0} → (o : Option A) → is_some o ≡ true → (x : A) × (o ≡ Some x)
some_of (Some x) _ = (x, refl)
some_of None e = absurd (true≢false (sym e))
