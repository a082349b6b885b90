use Rattle.aml_namespace.proofs.Stands.{if_agreed}
use Rattle.aml_space.proofs.spaces.Space.lead.Goals as goal

pub returns-clause-listed : goal.returns-clause-listed
returns-clause-listed c = λ es stands. if_agreed c.args.self.now es (λ p. p) c.args.scope.now c.args.name.now c.lead_known.result stands
    c.lead_known.ensures
