use Rattle.std.proofs.Common.{[], ◌≡◌, List, ℕ, map, sym, ap, subst, ◌∙◌}
use Rattle.std.proofs.lemmas.Bool.{false≢true}
use Rattle.std.specs.BTreeMap.{is_at, get}
use Rattle.std.specs.List.{list_any}
use Rattle.std.specs.FinSet as set
use Rattle.aml_names.specs.declared.segments.Seg.{Seg}
use Rattle.aml_names.specs.Paths.{seg_cmp, path_cmp}
use Rattle.aml_names.specs.Branches.{AreBranches, whole, branch_cmp}
use Rattle.aml_names.specs.Searching.{KnowEnds}
use Rattle.aml_names.proofs.EndLaws.{nothing_there}
use Rattle.aml_names.proofs.branches.Branches.new.Goals as goal

none_kept : (scope : List Seg) (ks : List (ℕ × List Seg)) → ks ≡ [] → AreBranches scope ks
none_kept scope ks none = λ b there. absurd (false≢true (sym (ap (list_any (is_at (branch_cmp b))) none) ∙ there))

pub invariant_of-result : goal.invariant_of-result
invariant_of-result g c = (
  none_kept _ _ c.new.ensures.empty,
  subst (λ ks. KnowEnds (set.from_list {R = path_cmp} (map (whole (g.S.Stand.path c.args.scope)) ks)) (g.S.Stand.path c.args.scope) (get seg_cmp c.new-2.result))
      (sym c.new.ensures.empty) (nothing_there c.new-2.result (g.S.Stand.path c.args.scope) c.new-2.ensures.empty),
)
