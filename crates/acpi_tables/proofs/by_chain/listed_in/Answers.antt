use Rattle.acpi_tables.proofs.Common.{◌≡◌, ℕ, Bool, true, false, List, nat_eq, map, ap, sym, ◌∙◌, arith, list_any}
use Rattle.acpi_tables.proofs.Common.{range_with_len, address_at, address_count, address_width, dump_at}
use Rattle.acpi_tables.proofs.Once.{listed_in, listed_none, listed_some}
use Rattle.acpi_tables.proofs.by_chain.listed_in.Goals as goal
use Rattle.acpi_tables.proofs.by_chain.listed_in.Goals.{in-Some+then-not-contains+in_ok-push, in-Some+else-not-contains}
use Rattle.acpi_tables.proofs.by_chain.listed_in.Goals.{in_default}

pub loop-index-preserved : goal.loop-index-preserved
loop-index-preserved c =
    let at = address_at (address_width c.args.width) c.args.table.now in
    let old = c.loop-index.listed.items in
    let given = ap (dump_at c.args.dumps.now) (sym c.address_at.ensures) ∙ sym c.dump_at.ensures in
    let some = listed_some c.args.dumps.now at c.loop-index.index old c.loop-index.invariant in
    let any : ℕ → List ℕ → Bool = λ dump. list_any (λ y. nat_eq y dump) in
    elim c.match-dump_at.branch [
      | in-Some+then-not-contains+in_ok-push w ↦
          ap (λ v. v.items) w.listed-is ∙ w.in_ok-push.ensures.items ∙ some w.in-Some.dump false (given ∙ w.in-Some.is)
          (ap (any w.in-Some.dump) (sym w.deref.ensures.value) ∙ sym w.contains.ensures.value ∙ w.if-not-contains.true)
      | in-Some+else-not-contains w ↦
          ap (λ v. v.items) w.listed-is ∙ some w.in-Some.dump true (given ∙ w.in-Some.is)
          (ap (any w.in-Some.dump) (sym w.deref.ensures.value) ∙ sym w.contains.ensures.value ∙ w.if-not-contains.false)
      | in_default w ↦
          ap (λ v. v.items) w.listed-is ∙ listed_none c.args.dumps.now at c.loop-index.index old c.loop-index.invariant (given ∙ w.in_default.is)
    ]

pub returns : goal.returns
returns c =
    let all : c.loop-index.index ≡ address_count (address_width c.args.width) c.args.table.now = omega arith in
    c.loop-index.invariant ∙ ap (λ n. listed_in c.args.dumps.now (map (address_at (address_width c.args.width) c.args.table.now) (range_with_len 0 n))) all
