use Rattle.std.proofs.Common.{◌≡◌, ◌+◌, ◌++◌, length, take, sym, ap, ◌∙◌, arith, length-append}
use Rattle.std.proofs.Math.Seq.{take-append_seam, drop-append_seam}
use Rattle.std.specs.Prelude.{drop}
use Rattle.aml_children.specs.Numbered.{walk}
use Rattle.aml_space.specs.Nodes.{kids_of, path_of}
use Rattle.aml_space.proofs.Levels.{reach_past}
use Rattle.aml_space.proofs.scopes.Scope.new.Goals as goal

pub returns-clause-scope : goal.returns-clause-scope
returns-clause-scope c =
    let ns = c.args.nodes.now in
    let r = c.args.reach in
    let left = r.left.now in
    let front = path_of ns r.node in
    let reach = c.requires.reach in
    let deep : c.depth_at-depth.result ≡ length front = c.depth_at-depth.ensures ∙ c.requires.index.deep r.node reach.within in
    let whole : length (front ++ left) ≡ length front + length left = length-append front left in
    let led = ap (λ d. walk (kids_of ns) 0 (take d (front ++ left))) deep ∙ ap (walk (kids_of ns) 0) (take-append_seam front left)
    ∙ c.requires.index.there r.node reach.within in
    record {
      index = c.requires.index;
      ways = c.requires.ways;
      last = record { within = omega (arith, deep, whole); led = led };
      long = omega (arith, deep, whole);
      past = reach_past ns (front ++ left) c.depth_at-depth.result r.node led
          (λ s q some. reach.ends s q (sym (ap (λ d. drop d (front ++ left)) deep ∙ drop-append_seam front left) ∙ some));
    }
