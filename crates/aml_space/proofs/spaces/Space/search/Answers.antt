use Rattle.aml_namespace.proofs.Stands.{if_found}
use Rattle.aml_space.proofs.spaces.Space.search.Goals as goal

pub returns-clause-listed : goal.returns-clause-listed
returns-clause-listed c = λ es stands. if_found c.args.self.now es (λ p. p) c.args.locals.now c.args.scope.now c.args.name.now c.search_known.result stands
    c.search_known.ensures
