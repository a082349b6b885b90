-- The laws of the whole reader.
use Rattle.aml_parse.proofs.Common.{◌≡◌, ℕ, zero, suc, ◌-◌, List, [], ◌∷◌, length, Option, Some, None, Ok, Err, refl}
use Rattle.aml_parse.proofs.Common.{sym, ap, ◌∙◌, arith, ◌≤◌, true, inl, inr, CodeFault, Seg, IsBytes, Position, Trees}
use Rattle.aml_parse.proofs.Common.{encodings, Arities, StandsAt, Setting, AreTerms, setting_of, BodiesStand, ReadsBody}
use Rattle.aml_parse.proofs.Common.{ReadsModule, no_arguments, read_on, whole, end_there, span_inside, Result, ok_is}
use Rattle.aml_parse.proofs.Common.{given_ok, given_err, ◌⊎◌}
use Rattle.std.specs.Prelude.{IfOk, IfErr}
use Rattle.aml_names.specs.NameReading.{Gives}
use Rattle.std.specs.FinSet as set
use Rattle.aml_parse.specs.Reading.{terms_at, too_deep, read_at, all_at}
use Rattle.aml_parse.proofs.FlatReads.{Answers, fails, made, at_offset}
use Rattle.aml_parse.proofs.Took.{Reads, TookTerm, IsReader}
use Rattle.aml_parse.proofs.Bodiless.{is_bodiless, Standing}
use Rattle.aml_parse.proofs.ReadLaws.{terms_reads, term_reads}
use Rattle.aml_parse.proofs.Again.{terms_again, term_again}

module _ (s : Setting) where
  too_deep_reads : (p : Position) → Reads s 0 (TookTerm s 0 p) too_deep
  too_deep_reads p at end ls [] w deep = fails s _ (CodeFault.Truncated end) (end_there s.code at end [] w)
  too_deep_reads p at end ls (b ∷ bs) w deep =
      fails s _ (CodeFault.TooDeep (end - length (b ∷ bs))) (at_offset s at end (b ∷ bs) w (λ n. CodeFault.TooDeep n)
      (omega (arith, deep), omega (arith, w.place, span_inside s.code at end (b ∷ bs) w)))

  pub read_law : (levels : ℕ) → IsReader s levels (read_at s.arity s.scope levels)
  unfolding read_at
  read_law zero = record { reads = λ p at end ls bs w deep. too_deep_reads p at end ls bs w deep; again = λ p end ls t rest h stand. absurd h }
  read_law (suc levels) = record {
    reads = λ p at end ls bs w deep. term_reads s levels (read_at s.arity s.scope levels) (read_law levels) p at end ls bs w deep;
    again = λ p end ls t rest h stand. term_again s levels (read_at s.arity s.scope levels) (read_law levels) p end ls t rest h stand;
  }

-- ---- all of the code

-- by how many arguments each name takes, from a scope, in a position
module _ (arity : Arities) (scope : Option (List Seg)) (p : Position) (code : List ℕ) where
  all_reads : IsBytes code
      → Answers (setting_of arity scope code)
      (λ ts. AreTerms (setting_of arity scope code) 512 p set.empty ts × (encodings code ts ≡ code) × BodiesStand code 0 ts) (all_at arity scope p code)
  unfolding all_at
  all_reads fits =
      let s = setting_of arity scope code in
      made s _ _ _ _
      (terms_reads s 512 (read_at arity scope 512) (read_law s 512) (length code) p 0 (length code) set.empty code (whole code fits) (omega arith))
      (λ x a. (a.is.0, sym a.text, a.is.1))

  all_again : (ts : Trees) → AreTerms (setting_of arity scope code) 512 p set.empty ts → encodings code ts ≡ code
      → Standing (is_bodiless p ≡ true) (λ at. BodiesStand code at ts) (length code) (encodings code ts)
      → all_at arity scope p code ≡ Ok ts
  unfolding all_at
  all_again ts lawful spelled stand =
      let s = setting_of arity scope code in
      let le : length (encodings code ts) ≤ length code = omega (arith, ap length spelled) in
      let read = terms_again s 512 (read_at arity scope 512) (read_law s 512) (length code) p (length code) set.empty ts le lawful stand in
      read_on _ _ _ _ (ap (terms_at (read_at arity scope 512) (length code) p (length code) set.empty) (sym spelled) ∙ read) refl

  pub all_placed : (d : CodeFault) → IsBytes code → all_at arity scope p code ≡ Err d → StandsAt arity code d
  all_placed d fits e = (all_reads fits).fault d e

-- ---- a method's body, and a table

module _ (arity : Arities) (method : List Seg) (code : List ℕ) (ts : Trees) where
  pub body_sound : IsBytes code → all_at arity (Some method) Position.BodyTerm code ≡ Ok ts
      → ReadsBody arity method code ts
  body_sound fits e = let a = (all_reads arity (Some method) Position.BodyTerm code fits).ok ts e in record { lawful = a.0; spelled = a.1 }

  pub body_again : ReadsBody arity method code ts → all_at arity (Some method) Position.BodyTerm code ≡ Ok ts
  body_again h = all_again arity (Some method) Position.BodyTerm code ts h.lawful h.spelled (inl refl)

-- what is said of an answer that reading forward gives: it is a reading of the code, the only one, or there is none
abbrev pub BodySaid : {X : Type 0} → (X → Trees) → Arities → List Seg → List ℕ → Result X CodeFault → Type 0
BodySaid view arity method code r =
    IfOk r (λ x. ReadsBody arity method code (view x)) × IfOk r (λ x. (ts : Trees) → ReadsBody arity method code ts → ts ≡ view x)
    × IfErr r (λ f. (f ≡ CodeFault.NoMemory) ⊎ ((ts : Trees) → ReadsBody arity method code ts → ⊥)) × IfErr r (StandsAt arity code)

pub body_said : {X : Type 0} (view : X → Trees) (arity : Arities) (method : List Seg) (code : List ℕ) (r : Result X CodeFault) → IsBytes code
    → Gives view r (all_at arity (Some method) Position.BodyTerm code) → BodySaid view arity method code r
body_said view arity method code r fits gives = (
  given_ok view _ r _ gives (λ x e. body_sound arity method code (view x) fits e),
  given_ok view _ r _ gives (λ x e ts h. ok_is ts (view x) (sym (body_again arity method code ts h) ∙ e)),
  given_err view _ r _ gives (inl refl) (λ d e. inr (λ ts h. absurd (cc (body_again arity method code ts h, e)))),
  given_err view _ r (StandsAt arity code) gives tt (λ d e. all_placed arity (Some method) Position.BodyTerm code d fits e),
)

pub module_sound : (code : List ℕ) (ts : Trees) → IsBytes code
    → all_at no_arguments None Position.ModuleTerm code ≡ Ok ts → ReadsModule code ts
module_sound code ts fits e =
    let a = (all_reads no_arguments None Position.ModuleTerm code fits).ok ts e in record { lawful = a.0; spelled = a.1; bodies = a.2 }

pub module_again : (code : List ℕ) (ts : Trees) → ReadsModule code ts
    → all_at no_arguments None Position.ModuleTerm code ≡ Ok ts
module_again code ts h =
    all_again no_arguments None Position.ModuleTerm code ts h.lawful h.spelled (inr (0, omega (arith, ap length h.spelled), h.bodies))
