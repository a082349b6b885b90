use Rattle.std.proofs.Common.{◌≡◌, ◌+◌, ◌∷◌, true, cond, drop, map, refl, sym, subst, ap, ◌∙◌, IfSome, arith}
use Rattle.std.specs.Prelude.{flat_map, ◌==◌}
use Rattle.std.proofs.lemmas.List.{drop_more}
use Rattle.aml_space.specs.Nodes.{known_by, paths_in}
use Rattle.aml_namespace.specs.Kinds.{kind_in}
use Rattle.aml_namespace.specs.Known.{outlook_in}
use Rattle.aml_namespace.specs.Runs.{counts_by}
use Rattle.aml_namespace.specs.Tallies.{joined, counts_in}
use Rattle.aml_namespace.specs.declared.tallies.Counts.{Counts}
use Rattle.aml_namespace.specs.declared.tallies.Counts.TheVariants.{Nothing, One, Several}
use Rattle.aml_namespace.proofs.Joined.{counts_step, joined_more}
use Rattle.aml_space.proofs.counting.counts_of_kinds.Goals as goal
use Rattle.aml_space.proofs.counting.counts_of_kinds.Goals.{then-not-is_same_alias, else-not-is_same_alias}

-- what is joined once more adds nothing
same : (c : Counts) → joined c c ≡ c
same Nothing = refl
same Several = refl
same (One n) = let is : (n == n) ≡ true = grind arith in ap (λ b. cond b (One n) Several) is

twice : (a b : Counts) → joined (joined a b) b ≡ joined a b
twice a b = joined_more a b b ∙ ap (joined a) (same b)

pub loop-kind-preserved : goal.loop-kind-preserved
loop-kind-preserved c =
    let f = counts_by (outlook_in (known_by c.args.nodes.now)) in
    let show = kind_in (paths_in c.args.nodes.now) in
    let ks = c.args.kinds.now in
    let at = c.loop-kind.kind-index in
    let rest = drop (at + 1) ks in
    let k = c.kind-item.result in
    let own = counts_in (f (show k)) in
    let step : c.if-not-is_same_alias.counts ≡ joined c.loop-kind.counts own = elim c.if-not-is_same_alias.branch [
      | then-not-is_same_alias w ↦ w.counts-is ∙ w.joined-counts.ensures ∙ ap (joined c.loop-kind.counts) w.counts_of_kind.ensures
      | else-not-is_same_alias w ↦ w.counts-is ∙ sym (subst (λ o. IfSome o (λ l. joined c.loop-kind.counts (counts_in (f (show l))) ≡ c.loop-kind.counts))
          (w.if-not-is_same_alias.ensures refl) c.loop-kind.invariant.1)
    ] in (
      c.loop-kind.invariant.0
          ∙ ap (λ xs. joined c.loop-kind.counts (counts_in (flat_map f (map show xs))))
          (drop_more ks at k c.loop-kind-test.true ∙ ap (λ x. x ∷ rest) (sym c.kind-item.is))
          ∙ counts_step f c.loop-kind.counts (show k) (map show rest)
          ∙ ap (λ x. joined x (counts_in (flat_map f (map show rest)))) (sym step),
      ap (λ x. joined x own) step ∙ twice c.loop-kind.counts own ∙ sym step,
    )
