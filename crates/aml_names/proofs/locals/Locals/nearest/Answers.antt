use Rattle.std.proofs.Common.{◌≡◌, ◌<◌, ◌++◌, [], ◌∷◌, false, List, length, take, refl, arith, sym, ap, subst, ◌∙◌}
use Rattle.std.specs.Bool.{OnFalse}
use Rattle.std.specs.FinSet as set
use Rattle.aml_names.specs.declared.segments.Seg.{Seg}
use Rattle.aml_names.proofs.EndLaws.{greatest_none, greatest_hit, greatest_miss, raised}
use Rattle.aml_names.proofs.locals.Locals.nearest.Goals as goal

pub returns-then-not-may_end : goal.returns-then-not-may_end
returns-then-not-may_end c =
    let scope = c.args.scope.now in
    let tail = c.args.segment ∷ [] in
    let locals = c.args.self.now in
    let none = subst (λ t. OnFalse t ((front : List Seg) → set.contains locals (front ++ tail) ≡ false)) c.if-not-may_end.true (rw c.self.view_is at c.may_end.ensures) in
    sym (greatest_none (λ d. set.contains locals (take d scope ++ tail)) (length scope) (λ d less. none (take d scope)))

pub returns-then-has : goal.returns-then-has
returns-then-has c =
    let locals = c.args.self.now in
    let tail = c.args.segment ∷ [] in
    let inv = c.depths.invariant in
    sym (inv.same ∙ greatest_hit (λ d. set.contains locals (take d c.args.scope.now ++ tail)) c.depths.depth
    (ap (set.contains locals) (sym inv.asked) ∙ sym c.has.ensures ∙ c.if-has.true))

pub depths-preserved : goal.depths-preserved
depths-preserved c =
    let locals = c.args.self.now in
    let tail = c.args.segment ∷ [] in
    let inv = c.depths.invariant in
    let positive : 0 < c.depths.depth = omega (arith, c.if-depth-eq0.false) in
    record {
      within = omega (arith, inv.within);
      asked = c.raise.ensures ∙ raised c.depths.depth c.args.scope.now tail c.depths.path inv.asked inv.within refl positive;
      same = inv.same ∙ greatest_miss (λ d. set.contains locals (take d c.args.scope.now ++ tail)) c.depths.depth
          (ap (set.contains locals) (sym inv.asked) ∙ sym c.has.ensures ∙ c.if-has.false) positive;
    }
