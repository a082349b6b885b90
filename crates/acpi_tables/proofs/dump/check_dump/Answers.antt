use Rattle.std.proofs.Common.{◌≡◌, ◌≤◌, false, true, length, rules, subst}
use Rattle.std.proofs.lemmas.Result.{on_ok_weaker}
use Rattle.acpi_tables.specs.Dumps.{HoldsContent, HoldsShape, kind_of, sums_hold}
use Rattle.acpi_tables.proofs.Taken.{taken}
use Rattle.acpi_tables.proofs.dump.check_dump.Goals as goal

pub returns-clause-holds : goal.returns-clause-holds
returns-clause-holds c =
    let small : length c.args.bytes.now ≤ 16777216 = search rules in
    let shape : HoldsShape (kind_of c.args.bytes.now) c.args.bytes.now = search rules in
    let sums : c.args.any_sum ≡ false → sums_hold (kind_of c.args.bytes.now) c.args.bytes.now ≡ true = search rules in
    on_ok_weaker c.check_content.result
    (λ (content : HoldsContent c.of-kind.result c.args.bytes.now).
    taken c.args.any_sum c.args.bytes.now shape sums
    (subst (λ kind. HoldsContent kind c.args.bytes.now) c.of-kind.ensures content) small)
    c.check_content.ensures.holds
