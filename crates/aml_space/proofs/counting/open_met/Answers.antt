use Rattle.std.proofs.Common.{rules, ◌≡◌, ◌∷◌, is_some, length, sym, ap, ◌∙◌, Some}
use Rattle.std.specs.Prelude.{◌||◌, ◌&&◌, not, nat_lt}
use Rattle.std.specs.List.{list_any}
use Rattle.std.specs.Option.{option_copied, option_map}
use Rattle.aml_namespace.specs.Known.{kinds_by}
use Rattle.aml_namespace.specs.Runs.{is_alias, is_open_alias, open_among}
use Rattle.aml_namespace.proofs.Said.{open_said}
use Rattle.aml_space.proofs.counting.open_met.Goals as goal
use Rattle.aml_namespace.specs.Kinds.{target_in, retarget}
use Rattle.aml_space.specs.Nodes.{paths_in, said_in}
use Rattle.aml_namespace.proofs.Aimed.{kinds_aimed, open_aimed}

pub returns-in-Some : goal.returns-in-Some
returns-in-Some c =
    let d = c.in-Some.said.now in
    let standing = c.args.standing in
    let show = target_in (paths_in c.args.nodes.now) in
    let some : c.is_some.result ≡ is_some standing = search rules in
    c.is_open_by.ensures
    ∙ ap (λ b. list_any is_alias (d.kind ∷ d.others) && (is_open_alias d.kind || (nat_lt 0 (length d.others) || (not d.sure && b)))) some
    ∙ open_said d standing c.requires.standing
    ∙ sym (open_aimed show (kinds_by (Some d) standing)) ∙ ap open_among (sym (kinds_aimed show (Some d) standing))
    ∙ ap (λ o. open_among (kinds_by o (option_map (retarget show) standing)))
    (ap (λ o. option_map (said_in (paths_in c.args.nodes.now)) (option_copied o)) (sym c.in-Some.is) ∙ c.declared_at.ensures)
