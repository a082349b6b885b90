use Rattle.std.proofs.Common.{◌≡◌, ap}
use Rattle.std.proofs.lemmas.Result.{err_from_is_err_and}
use Rattle.aml_load.specs.Loading.{Where}
use Rattle.aml_load.proofs.walking.Progress.tell_table.Goals as goal
unfoldable use Rattle.aml_parse.specs.Running.{run_table_at}

pub returns-clause-told : goal.returns-clause-told
unfolding run_table_at
returns-clause-told g c =
    let told = c.in_ok-tell_terms.ensures.told in
    let site = c.root_site-root.ensures.site in
    let table : c.root_site-root.result.table ≡ c.args.table = ap (λ (w : Where). w.table) site in
    (told.0, (told.1.0, rw (site, table) at told.1.1))

pub returns-in_err-tell_terms-clause-fails : goal.returns-in_err-tell_terms-clause-fails
unfolding run_table_at
returns-in_err-tell_terms-clause-fails g c =
    let site = c.root_site-root.ensures.site in
    let table : c.root_site-root.result.table ≡ c.args.table = ap (λ (w : Where). w.table) site in
    let gave = err_from_is_err_and c.from_residual.result c.from_residual.ensures.1 in
    rw (gave.1, gave.2) (rw (site, table) at c.in_err-tell_terms.ensures.fails)
