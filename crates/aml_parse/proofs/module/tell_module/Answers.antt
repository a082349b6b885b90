use Rattle.aml_parse.proofs.Common.{rules, ◌≡◌, ◌⊎◌, refl, sym, ◌∙◌, inl, inr, arith, ok_is, subst, Result, Err, Trees, StandsAt}
use Rattle.aml_parse.proofs.Common.{no_arguments, given_err}
use Rattle.aml_code.specs.Lawful.{ReadsModule}
use Rattle.aml_code.specs.Pieces.{line_pieces}
use Rattle.aml_names.specs.declared.faults.CodeFault.{CodeFault}
use Rattle.aml_names.specs.declared.faults.CodeFault.TheVariants as codes
use Rattle.aml_parse.proofs.Readings.{module_sound, module_again, all_placed}
use Rattle.aml_parse.proofs.module.tell_module.Goals as goal

pub returns-clause-told : goal.returns-clause-told
returns-clause-told g c =
    let x = c.in_ok-tell_module_terms.ensures.told in
    (x.0, (module_sound _ x.0 (λ i. omega (arith, c.type_inv.code i)) x.1.0, (x.1.0, x.1.1)))

pub returns-clause-one : goal.returns-clause-one
returns-clause-one g c =
    let x = c.in_ok-tell_module_terms.ensures.told in
    λ ts h. subst (λ (t : Trees). g.S.Sink.grew c.args.sink.now c.tell_module_terms.new.sink (line_pieces c.args.level t))
    (ok_is x.0 ts (sym x.1.0 ∙ module_again _ ts h)) x.1.1

pub returns-in_err-tell_module_terms-clause-complete : goal.returns-in_err-tell_module_terms-clause-complete
returns-in_err-tell_module_terms-clause-complete g c =
    let fails = c.in_err-tell_module_terms.ensures.fails in
    let refused : Result Trees CodeFault = Err c.in_err-tell_module_terms.field-0.0 in
    let known = given_err (λ (ts : Trees). ts) _ refused
    (λ fault. (fault ≡ codes.NoMemory) ⊎ ((ts : Trees) → ReadsModule c.args.code.now ts → ⊥)) fails (inl refl)
    (λ d e. inr (λ ts h. absurd (cc (module_again _ ts h, e)))) in
    search rules

pub returns-in_err-tell_module_terms-clause-placed : goal.returns-in_err-tell_module_terms-clause-placed
returns-in_err-tell_module_terms-clause-placed g c =
    let fails = c.in_err-tell_module_terms.ensures.fails in
    let refused : Result Trees CodeFault = Err c.in_err-tell_module_terms.field-0.0 in
    let known = given_err (λ (ts : Trees). ts) _ refused (StandsAt no_arguments c.args.code.now) fails tt
    (λ d. all_placed _ _ _ c.args.code.now d (λ i. omega (arith, c.type_inv.code i))) in
    search rules
