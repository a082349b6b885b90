use Rattle.std.proofs.Common.{◌≡◌, ◌<◌, None, length, sym, subst, ap, ◌∙◌, arith}
use Rattle.std.specs.Option.{option_or}
use Rattle.aml_children.specs.Children.{behind, first_node, Rise}
use Rattle.aml_space.specs.Nodes.{kids_of, links_of}
use Rattle.aml_children.specs.Numbered.{up}
use Rattle.aml_children.proofs.Family.{family_rises}
use Rattle.aml_children.proofs.Visiting.{up_on}
use Rattle.aml_space.proofs.listing.node_behind.Goals as goal

pub after-requires : goal.after-requires
after-requires c =
    let p = c.link-parent.result.0 in
    subst Rise (sym c.children_at.ensures) (family_rises p (length c.args.nodes.now) (kids_of c.args.nodes.now p) (c.requires.index.shape.families p))

pub levels-preserved : goal.levels-preserved
levels-preserved c =
    let ns = c.args.nodes.now in
    let p = c.link-parent.result.0 in
    let s = c.link-parent.result.1 in
    let some : 0 < c.levels.at = omega (arith, c.if-at-eq0.false) in
    let lower : (links_of ns c.levels.at).0 < c.levels.at = c.requires.index.linked.lower c.levels.at some c.levels.invariant.within in
    let less : p < c.levels.at = subst (λ l. l.0 < c.levels.at) (sym c.link-parent.ensures) lower in
    let none : first_node (behind s (kids_of ns p)) ≡ None = ap (λ cs. first_node (behind s cs)) (sym c.children_at.ensures) ∙ sym c.after.ensures
    ∙ c.in-None.is in
    record {
      within = omega (arith, less, c.levels.invariant.within);
      same = c.levels.invariant.same
          ∙ up_on c.requires.index.shape (links_of ns) c.requires.index.linked.lower c.levels.at (p, s) some c.levels.invariant.within c.link-parent.ensures
          ∙ ap (λ o. option_or o (up (kids_of ns) (links_of ns) p)) none;
    }
