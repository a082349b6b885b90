use Rattle.std.proofs.Common.{◌≡◌, ◌+◌, ◌-◌, ℕ, Some, take, sym, ap, ◌∙◌, arith}
use Rattle.aml_names.specs.declared.segments.Seg.{Seg}
use Rattle.aml_children.specs.Numbered.{walk}
use Rattle.aml_space.specs.Nodes.{kids_of}
use Rattle.aml_space.proofs.Levels.{led_above}
use Rattle.aml_children.proofs.Walks.{node_range}
use Rattle.aml_space.specs.Candidates.{path_in}
use Rattle.aml_space.proofs.scopes.Scope.above.Goals as goal

pub link-parent-requires : goal.link-parent-requires
link-parent-requires c = node_range c.requires.scope.index.shape (take c.args.level.depth (path_in c.args.self.now)) c.args.level.node c.requires.level.led

pub returns-clause-level : goal.returns-clause-level
returns-clause-level c =
    let s = c.args.self.now in
    let d = c.args.level.depth - 1 in
    let same : d + 1 ≡ c.args.level.depth = omega (arith, c.requires.deep) in
    record {
      within = omega (arith, c.requires.level.within);
      led = led_above s.nodes.now c.requires.scope.index (path_in s) d c.args.level.node (omega (arith, same, c.requires.level.within))
          (ap (λ n. walk (kids_of s.nodes.now) 0 (take n (path_in s))) same ∙ c.requires.level.led)
          ∙ ap (λ (l : ℕ × Seg). Some l.0) (sym c.link-parent.ensures);
    }
