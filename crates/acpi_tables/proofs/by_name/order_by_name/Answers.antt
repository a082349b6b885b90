use Rattle.acpi_tables.proofs.Common.{subst, sym, ◌∙◌, rules, IsPermutation}
use Rattle.std.proofs.lemmas.Fn.{always_returns_same}
use Rattle.acpi_tables.proofs.Ranks.{ranks_below, rank_order, only_one}
use Rattle.acpi_tables.proofs.by_name.order_by_name.Goals as goal

pub returns-clause-order : goal.returns-clause-order
returns-clause-order c = record {
  only =
      let same = c.as_slice.ensures.value ∙ c.in_ok-dsdts.ensures in
      sym same ∙ only_one c.as_slice.result.now c.in-len1.len_at_least c.in-len1.len_below;
  all = subst (λ indexes. IsPermutation indexes c.sort_unstable_by.new.self.items) c.in_ok-ssdts.ensures c.sort_unstable_by.ensures.permutation;
  sorted = c.sort_unstable_by.ensures.sorted (ranks_below c.args.dumps.now) (rank_order c.args.dumps.now)
      (always_returns_same _ _ _ (λ a r f' called. (search rules, search rules)));
}
