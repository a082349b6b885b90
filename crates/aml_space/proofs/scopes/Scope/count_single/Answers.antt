use Rattle.std.proofs.Common.{length, cond, Some, None, sym, ap, ◌∙◌}
use Rattle.std.specs.Option.{option_or}
use Rattle.aml_names.specs.Searching.{upward}
use Rattle.aml_space.specs.Nodes.{known_by}
use Rattle.aml_space.specs.Candidates.{path_in, outlook_at}
use Rattle.aml_namespace.proofs.Joined.{agreed_by}
use Rattle.aml_namespace.proofs.Meeting.{first_in}
use Rattle.aml_namespace.proofs.Unmet.{agreed_unmet}
use Rattle.aml_space.proofs.scopes.Scope.count_single.Goals as goal

pub returns-in-Nothing : goal.returns-in-Nothing
returns-in-Nothing g c =
    let s = c.args.self.now in
    c.or.ensures
    ∙ (λ i. option_or (c.first_count-outside.ensures i) ((c.count_unknown.ensures
    ∙ ap (λ o. option_or o (cond c.args.unknown_zero (Some 0) None)) c.first_count-given.ensures) i))
    ∙ sym (agreed_unmet (outlook_at s) (first_in (known_by s.nodes.now)) (g.L.Seen.paths c.args.locals.now) c.args.unknown_zero
    (upward (length (path_in s)) (path_in s) c.args.segment.now) (sym c.in-Nothing.is ∙ c.in_ok-counts.ensures))

pub returns-in-One : goal.returns-in-One
returns-in-One g c =
    let s = c.args.self.now in
    sym (agreed_by (outlook_at s) c.args.unknown_zero (g.L.Seen.paths c.args.locals.now) (upward (length (path_in s)) (path_in s) c.args.segment.now) _
    (sym c.in-One.is ∙ c.in_ok-counts.ensures))

pub returns-in-Several : goal.returns-in-Several
returns-in-Several g c =
    let s = c.args.self.now in
    c.first_count.ensures ∙ sym (agreed_by (outlook_at s) c.args.unknown_zero (g.L.Seen.paths c.args.locals.now)
    (upward (length (path_in s)) (path_in s) c.args.segment.now) _ (sym c.in-Several.is ∙ c.in_ok-counts.ensures))
