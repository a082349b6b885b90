use Rattle.std.proofs.Common.{◌≡◌, ◌∷◌, List, Option, Some, None, Result, Ok, Err, refl, sym, ap, ◌∙◌}
use Rattle.std.specs.Option.{option_map}
use Rattle.aml_load.specs.Declaring.{◌>>=◌, Listed}
use Rattle.aml_load.specs.Groups.{uses_of}
use Rattle.aml_load.specs.Hearing.{Head, Heard, enter, inside_by, terms, with_more}
use Rattle.aml_load.specs.Running.{Front}
use Rattle.aml_load.specs.HearingViews.{head_view, heard_by, entered_by, finish_by}
use Rattle.aml_load.specs.Loading.{Where}
use Rattle.aml_load.specs.Walking.{at_site}
use Rattle.aml_load.specs.declared.faults.LoadFault.{LoadFault}
use Rattle.aml_load.specs.declared.groups.Group.{Group}
use Rattle.aml_load.proofs.HearingLaws.{more_none}
use Rattle.aml_load.proofs.hearing.Hearing.open_terms.Goals as goal

-- by what the term does
inside_is : (h : Option Head) (l m : Listed) (o : Option Where) (x : Heard) → x.term ≡ h → x.listed ≡ l
    → finish_by h l (0, 0) ≡ Ok (m, o)
    → inside_by h x ≡ Ok (record { listed = m; term = None; around = entered_by o ∷ x.around })
inside_is None l m o x is at e =
    let both : (l, None) ≡ (m, o) = cc in
    λ i. Ok (record {
      listed = (at ∙ ap (λ (y : Listed × Option Where). y.0) both) i;
      term = is i;
      around = entered_by (both i).1 ∷ x.around;
    })
inside_is (Some h) l m o x is at e =
    ap (λ (l : Listed). enter h l (0, 0) >>= next) at ∙ by (enter h l (0, 0)) e
  where
    next : Front → Result Heard LoadFault
    next f = Ok (record { listed = f.listed; term = None; around = terms f.site ∷ x.around })

    pair : Front → Listed × Option Where
    pair f = (f.listed, Some f.site)

    sited : Front → Result (Listed × Option Where) LoadFault
    sited f = Ok (pair f)

    by : (r : Result Front LoadFault) → (r >>= sited) ≡ Ok (m, o)
        → (r >>= next) ≡ Ok (record { listed = m; term = None; around = entered_by o ∷ x.around })
    by (Ok f) e =
        let whole : Listed × Option Where = (m, o) in
        let both : pair f ≡ whole = cc in
        λ i. Ok (record { listed = (both i).0; term = None; around = entered_by (both i).1 ∷ x.around })
    by (Err d) e = absurd cc

pub returns-clause-hears : goal.returns-clause-hears
returns-clause-hears c =
    let old = c.args.self.now in
    let mid = c.finish.new.self in
    let k = mid.progress.space in
    let done = c.in_ok-site.ensures.finishes in
    let goes = c.in_ok-go_in.ensures k (c.terms_at.ensures.numbered k done.inside) in
    let site = option_map (at_site k) c.in_ok-site.site in
    record {
      heard = λ l h.
          let x = heard_by old l in
          let a = done.entered l h in
          let listed = ap (λ (us : List Group). with_more a.0 (uses_of k us)) done.uses ∙ more_none a.0 in (
            a.0,
            a.1,
            inside_is x.term x.listed a.0 site x refl refl a.2
                ∙ sym (ap Ok (goes.heard a.0 ∙ (λ i. record {
                  listed = listed i;
                  term = option_map (head_view k) (done.head i);
                  around = c.terms_at.ensures.around k i ∷ done.around i;
                }))),
          );
      numbered = goes.numbered done.numbered;
    }
