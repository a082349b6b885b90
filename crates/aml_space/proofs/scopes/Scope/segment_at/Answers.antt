use Rattle.std.proofs.Common.{Some, take, ap, subst, ◌≡◌, ◌∙◌, arith}
use Rattle.std.specs.Prelude.{ℕ}
use Rattle.aml_children.specs.Numbered.{walk}
use Rattle.aml_children.proofs.Walks.{node_range}
use Rattle.aml_names.specs.declared.segments.Seg.{Seg}
use Rattle.aml_space.specs.Nodes.{kids_of}
use Rattle.aml_space.specs.Candidates.{path_in}
use Rattle.aml_space.proofs.Beyond.{long_is, segment_led, segment_beyond}
use Rattle.aml_space.proofs.scopes.Scope.segment_at.Goals as goal

pub link-requires : goal.link-requires
link-requires c =
    let s = c.args.self.now in
    node_range c.requires.scope.index.shape (take c.level_at.result.depth (path_in s)) c.level_at.result.node c.level_at.ensures.level.led

pub segment_of-requires : goal.segment_of-requires
segment_of-requires c = omega (arith, long_is c.args.self.now c.requires.scope, c.requires.within, c.if-place-self.false)

pub returns-then-place-self : goal.returns-then-place-self
returns-then-place-self c =
    let s = c.args.self.now in
    let led = subst (λ d. walk (kids_of s.nodes.now) 0 (take d (path_in s)) ≡ Some c.level_at.result.node) c.level_at.ensures.depth c.level_at.ensures.level.led in
    ap (λ (l : ℕ × Seg). l.1) c.link.ensures ∙ segment_led s c.requires.scope c.args.place c.level_at.result.node c.requires.within led

pub returns-else-place-self : goal.returns-else-place-self
returns-else-place-self c = c.segment_of.ensures ∙ segment_beyond c.args.self.now c.requires.scope c.args.place c.if-place-self.false
