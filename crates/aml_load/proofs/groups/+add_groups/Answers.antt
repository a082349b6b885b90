use Rattle.std.proofs.Common.{List, ◌++◌, append_assoc, sym, ap, subst, ◌∙◌}
use Rattle.aml_load.specs.Declaring.{Use}
use Rattle.aml_load.specs.Groups.{AreKnown, group_uses, uses_of}
use Rattle.aml_load.specs.declared.groups.Group.{Group}
use Rattle.aml_load.proofs.Grouping.{group_more, known_front}
use Rattle.aml_load.proofs.Steps.{on_ok_by}
use Rattle.aml_load.proofs.groups.+add_groups.Goals as goal

pub returns-clause-added : goal.returns-clause-added
returns-clause-added t c k =
    let last = c.in-Some.last in
    let before = uses_of k c.args.groups.now.items in
    let rest = c.pop.new.self.items in
    on_ok_by c.add_group.result (λ added.
    added ∙ ap (λ (us : List Use). us ++ group_uses k last) (c.in_ok-add_groups.ensures.added k)
    ∙ append_assoc before (uses_of k rest) (group_uses k last)
    ∙ ap (λ (us : List Use). before ++ us) (sym (group_more k rest last))
    ∙ ap (λ (gs : List Group). before ++ uses_of k gs) (sym c.in-Some.ensures.items))
    (c.add_group.ensures.added k)

pub returns-clause-known : goal.returns-clause-known
returns-clause-known t c k more groups =
    let parts = known_front k c.pop.new.self.items c.in-Some.last (subst (AreKnown k) c.in-Some.ensures.items more) in
    c.add_group.ensures.known k parts.1 (c.in_ok-add_groups.ensures.known k parts.0 groups)
