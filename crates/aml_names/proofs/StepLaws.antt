-- What holds of a step that was taken, and of one that failed.
use Rattle.std.proofs.Common.{◌≡◌, ℕ, suc, ◌+◌, ◌<◌, Bool, true, false, cond, List, [], ◌∷◌, ◌++◌, get_or, take, drop}
use Rattle.std.proofs.Common.{Result, Ok, Err, refl, sym, ap, subst, ◌∙◌, append_assoc, arith, inl, inr}
use Rattle.std.proofs.lemmas.Bool.{cases_lt}
use Rattle.std.proofs.lemmas.List.{length-take, get_or-drop, get_or-take, get_or_past}
use Rattle.aml_names.specs.declared.faults.CodeFault.{CodeFault}
use Rattle.aml_names.specs.declared.faults.CodeFault.TheVariants as faults
use Rattle.aml_names.specs.NameReading.{◌>>=◌, byte_at}

abbrev done : {A : Type 0} → A → Result A CodeFault
done x = Ok x

pub ok_is : {A : Type 0} (x y : A) → done x ≡ done y → x ≡ y
ok_is x y e = cc

abbrev failed : {A : Type 0} → CodeFault → Result A CodeFault
failed e = Err e

pub err_is : {A : Type 0} (d e : CodeFault) → failed {A = A} d ≡ failed e → d ≡ e
err_is d e h = cc

-- a step that was taken, for what is wanted of all
pub bind_then : {A B : Type 0} (P : Type 0) (r : Result A CodeFault) (f : A → Result B CodeFault) (y : B)
    → (r >>= f) ≡ Ok y
    → ((x : A) → r ≡ Ok x → f x ≡ Ok y → P) → P
bind_then P (Ok x) f y e k = k x refl e
bind_then P (Err d) f y e k = absurd cc

-- a fault of two steps: of the first, or of the second
pub err_then : {A B : Type 0} (P : Type 0) (r : Result A CodeFault) (f : A → Result B CodeFault) (d : CodeFault)
    → (r >>= f) ≡ Err d → (r ≡ Err d → P)
    → ((x : A) → r ≡ Ok x → f x ≡ Err d → P) → P
err_then P (Ok x) f d e first second = second x refl e
err_then P (Err c) f d e first second = first cc

-- a test, by its two sides
pub cond_then : {A : Type 0} (P : Type 0) (b : Bool) (x y z : A) → cond b x y ≡ z → (b ≡ true → x ≡ z → P)
    → (b ≡ false → y ≡ z → P) → P
cond_then P true x y z e f g = f refl e
cond_then P false x y z e f g = g refl e

-- ---- bytes

abbrev pub IsBytes : List ℕ → Type 0
IsBytes bytes = (i : ℕ) → get_or bytes i 0 < 256

pub IsBytes-drop : (n : ℕ) (bytes : List ℕ) → IsBytes bytes → IsBytes (drop n bytes)
IsBytes-drop n bytes h i = rw get_or-drop (h (n + i))

pub IsBytes-take : (n : ℕ) (bytes : List ℕ) → IsBytes bytes → IsBytes (take n bytes)
IsBytes-take n bytes h i =
    elim (cases_lt i n) [
      | inl lt ↦ rw (get_or-take n bytes i 0 lt) (h i)
      | inr le ↦ rw (get_or_past (take n bytes) i 0 (omega (arith, length-take n bytes))) (omega arith)
    ]

pub IsBytes-rest : (b : ℕ) (bytes : List ℕ) → IsBytes (b ∷ bytes) → IsBytes bytes
IsBytes-rest b bytes h i = h (suc i)

-- what a step took from the front
pub record Takes (bytes text rest : List ℕ) : Type 0 where
  pub parts : bytes ≡ text ++ rest
  pub rest_fits : IsBytes rest

pub Takes-none : (bytes : List ℕ) → IsBytes bytes → Takes bytes [] bytes
Takes-none bytes fits = record { parts = refl; rest_fits = fits }

pub Takes-then : (a x b y c : List ℕ) → Takes a x b → Takes b y c → Takes a (x ++ y) c
Takes-then a x b y c p q = record { parts = p.parts ∙ ap (λ (t : List ℕ). x ++ t) q.parts ∙ sym (append_assoc x y c); rest_fits = q.rest_fits }

pub byte_takes : (end : ℕ) (bytes : List ℕ) (b : ℕ) (rest : List ℕ) → IsBytes bytes → byte_at end bytes ≡ Ok (b, rest)
    → Takes bytes (b ∷ []) rest × (b < 256)
byte_takes end [] b rest fits e = absurd cc
byte_takes end (c ∷ bytes) b rest fits e =
    subst (λ (p : ℕ × List ℕ). Takes (c ∷ bytes) (p.0 ∷ []) p.1 × (p.0 < 256)) (ok_is (c, bytes) (b, rest) e)
    (record { parts = refl; rest_fits = IsBytes-rest c bytes fits }, fits 0)

pub byte_fault : (end : ℕ) (bytes : List ℕ) (d : CodeFault) → byte_at end bytes ≡ Err d → d ≡ faults.Truncated end
byte_fault end [] d e = sym (err_is {A = ℕ × List ℕ} (faults.Truncated end) d e)
byte_fault end (b ∷ bytes) d e = absurd cc
