-- No lawful term's bytes begin another's, and terms with the same bytes are the same: the reader reads each lawful term
-- again from its bytes, whatever is behind them, and it answers one term.
use Rattle.aml_parse.proofs.Common.{◌≡◌, ℕ, ◌+◌, List, [], ◌++◌, length, Option, refl, sym, ap, ◌∙◌, arith, inr}
use Rattle.aml_parse.proofs.Common.{append-nil, Seg, PathSet, ok_is, Position, Tree, Trees, encoding, encodings, after}
use Rattle.aml_parse.proofs.Common.{after_all, IsLawful, AreTerms, setting_of, Arities, IsTermAt, AreTermsAt}
use Rattle.aml_parse.proofs.Common.{NoProperPrefix, SameByBytes, AllSameByBytes, deeper_by, terms_deeper_by}
use Rattle.aml_parse.specs.Reading.{terms_at, read_at}
use Rattle.aml_parse.proofs.Again.{terms_again}
use Rattle.aml_parse.proofs.Readings.{read_law}

module _ (arity : Arities) (scope : Option (List Seg)) (code : List ℕ) (p : Position) (ls : PathSet) (at : ℕ) where
  pub no_proper_prefix : NoProperPrefix code (IsTermAt (setting_of arity scope code) p ls at)
  no_proper_prefix t u behind is_t is_u e =
      let s = setting_of arity scope code in
      let levels = is_t.levels + is_u.levels in
      let lawful_t : IsLawful s levels p ls t = deeper_by s is_u.levels is_t.levels levels p ls t (omega arith) is_t.lawful in
      let lawful_u : IsLawful s levels p ls u = deeper_by s is_t.levels is_u.levels levels p ls u refl is_u.lawful in
      let law = read_law s levels in
      let whole : encoding code u ++ [] ≡ encoding code t ++ behind = append-nil (encoding code u) ∙ e in
      let end = at + length (encoding code u ++ []) in
      let as_u = law.again p end ls u [] lawful_u (inr (at, refl, is_u.bodies)) in
      let as_t = law.again p end ls t behind lawful_t (inr (at, ap (λ (b : List ℕ). at + length b) (sym whole), is_t.bodies)) in
      let same = ok_is (u, after scope ls u, []) (t, after scope ls t, behind) (sym as_u ∙ ap (read_at arity scope levels p end ls) whole ∙ as_t) in
      (ap (λ (x : Tree × PathSet × List ℕ). x.0) same, sym (ap (λ (x : Tree × PathSet × List ℕ). x.2) same))

  pub same_by_bytes : SameByBytes code (IsTermAt (setting_of arity scope code) p ls at)
  same_by_bytes t u is_t is_u e = (no_proper_prefix t u [] is_t is_u (e ∙ sym (append-nil (encoding code t)))).0

  pub all_same_by_bytes : AllSameByBytes code (AreTermsAt (setting_of arity scope code) p ls at)
  all_same_by_bytes ts us are_ts are_us e =
      let s = setting_of arity scope code in
      let levels = are_ts.levels + are_us.levels in
      let lawful_ts : AreTerms s levels p ls ts = terms_deeper_by s are_us.levels are_ts.levels levels p ls ts (omega arith) are_ts.lawful in
      let lawful_us : AreTerms s levels p ls us = terms_deeper_by s are_ts.levels are_us.levels levels p ls us refl are_us.lawful in
      let read = read_at arity scope levels in
      let n = length (encodings code us) in
      let end = at + n in
      let again = terms_again s levels read (read_law s levels) n p end ls in
      let as_us = again us (omega arith) lawful_us (inr (at, refl, are_us.bodies)) in
      let as_ts = again ts (omega (arith, ap length e)) lawful_ts (inr (at, omega (arith, ap length e), are_ts.bodies)) in
      let same = ok_is (us, after_all scope ls us) (ts, after_all scope ls ts) (sym as_us ∙ ap (terms_at read n p end ls) e ∙ as_ts) in
      ap (λ (x : Trees × PathSet). x.0) same
