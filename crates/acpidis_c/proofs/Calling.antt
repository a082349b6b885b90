-- A call on an open set, by what it does to its state.
use Rattle.std.proofs.Common.{◌≡◌, sym, subst, refl, true≢false, inl}
use Rattle.std.specs.Prelude.{Option, Some, None, Result, Ok, Err, OnOk, OnErr, IfErr, false, is_some}
use Rattle.acpidis_c.specs.declared.code.Fault.{Fault}
use Rattle.acpidis_c.specs.declared.state.State.{State}
use Rattle.acpidis_c.specs.Sets.{Calls, Opens}
use Rattle.acpidis_c.specs.States.{IsSame, IsNew}

module _ (Does : State → State → Type 0) (Stops : State → Fault → Type 0) (s t : State) where
  of_open : (ended : Result (Unit {0}) Fault) (after : Option State) → after ≡ Some t → OnOk ended (Does s t)
      → IfErr ended (Stops s) → OnErr ended (IsSame s t) → Calls Does Stops (Some s) ended after
  of_open (Ok x) after there done stops same = (t, there, done)
  of_open (Err fault) after there done stops same = (stops, (t, there, same))

  pub calls : (before : Option State) (ended : Result (Unit {0}) Fault) (after : Option State) → before ≡ Some s
      → after ≡ Some t → OnOk ended (Does s t) → IfErr ended (Stops s) → OnErr ended (IsSame s t)
      → Calls Does Stops before ended after
  calls before ended after was there done stops same =
      subst (λ o. Calls Does Stops o ended after) (sym was) (of_open ended after there done stops same)

pub on_ok : {A B C E : Type 0} → (r : Result A E) → (B → C) → OnOk r B → OnOk r C
on_ok (Ok x) f b = f b
on_ok (Err e) f b = b

pub opens : (before : Option State) (s : State) (after : Option State) → is_some before ≡ false → after ≡ Some s
    → IsNew s → Opens before 0 after
opens None s after closed there new = inl (refl, (s, there, new))
opens (Some old) s after closed there new = absurd (true≢false closed)
