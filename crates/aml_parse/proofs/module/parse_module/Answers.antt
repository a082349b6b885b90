use Rattle.aml_parse.proofs.Common.{refl, sym, ◌∙◌, inl, inr, arith, ok_is, StandsAt, no_arguments, given_ok, given_err}
use Rattle.aml_parse.proofs.Readings.{module_sound, module_again, all_placed}
use Rattle.aml_parse.proofs.module.parse_module.Goals as goal

pub returns-clause-sound : goal.returns-clause-sound
returns-clause-sound c = given_ok _ _ c.module_terms.result _ c.module_terms.ensures (λ x e. module_sound _ _ (λ i. omega (arith, c.type_inv.code i)) e)

pub returns-clause-one : goal.returns-clause-one
returns-clause-one c = given_ok _ _ c.module_terms.result _ c.module_terms.ensures (λ x e ts h. ok_is _ _ (sym (module_again _ ts h) ∙ e))

pub returns-clause-complete : goal.returns-clause-complete
returns-clause-complete c =
    given_err _ _ c.module_terms.result _ c.module_terms.ensures (inl refl) (λ d e. inr (λ ts h. absurd (cc (module_again _ ts h, e))))

pub returns-clause-placed : goal.returns-clause-placed
returns-clause-placed c =
    given_err _ _ c.module_terms.result (StandsAt no_arguments c.args.code.now) c.module_terms.ensures tt
    (λ d. all_placed _ _ _ c.args.code.now d (λ i. omega (arith, c.type_inv.code i)))
