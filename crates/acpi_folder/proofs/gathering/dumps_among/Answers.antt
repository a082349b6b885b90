use Rattle.acpi_folder.proofs.Common.{rules, tests, not, List, String, Global, IsPermutation, string_bytes, subst}
use Rattle.acpi_folder.proofs.Common.{filter_from_retain, is_map}
use Rattle.acpi_folder.proofs.gathering.dumps_among.Goals as goal

pub returns-clause-all : goal.returns-clause-all
returns-clause-all c =
    let P : List (String Global) → Type 0 = λ (kept : List (String Global)). IsPermutation kept c.sort.new.self.items in
    subst P (filter_from_retain _ (λ (name : String Global). not (is_map (string_bytes name))) (λ p x b q k. search (rules, tests))
    _ _ _ c.retain.ensures.filtered)
    c.in_ok-sort.ensures.permutation
