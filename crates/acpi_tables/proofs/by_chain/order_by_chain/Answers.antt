use Rattle.acpi_tables.proofs.Common.{codes, rules, sym, subst, ◌∙◌, HoldsRoot, has_signature}
use Rattle.acpi_tables.proofs.Signed.{root_holds, list_holds, fadt_holds, find-passes}
use Rattle.acpi_tables.proofs.by_chain.order_by_chain.Goals as goal

pub list_of-requires : goal.list_of-requires
list_of-requires c =
    let signed = find-passes (has_signature c.args.dumps.now (codes "RSD PTR ")) _ _ (sym c.root_of.ensures ∙ c.in_ok-root.ensures.ok_part) in
    subst HoldsRoot (sym c.bytes_of-pointer.ensures) (root_holds _ _ c.requires _ signed)

pub listed_by-requires : goal.listed_by-requires
listed_by-requires c =
    let holds = list_holds _ _ c.requires c.in_ok-list.list _ (sym c.list_of.ensures ∙ c.in_ok-list.ensures.ok_part) in
    record { table = holds.0; holds = holds.1 }

pub dsdt_of-requires : goal.dsdt_of-requires
dsdt_of-requires c =
    let listed = sym c.first_of.ensures ∙ c.in_ok-fadt.ensures.ok_part in
    let holds = fadt_holds _ _ c.requires c.in_ok-fadt.fadt (find-passes (has_signature c.args.dumps.now (codes "FACP")) _ _ listed) in
    record { table = holds.0; holds = holds.1 }

pub returns-clause-order : goal.returns-clause-order
returns-clause-order c = record {
  root = c.in_ok-root.root;
  list = c.in_ok-list.list;
  fadt = c.in_ok-fadt.fadt;
  first = sym c.root_of.ensures ∙ c.in_ok-root.ensures.ok_part;
  leads = rw (← c.bytes_of-pointer.ensures) (sym c.list_of.ensures ∙ c.in_ok-list.ensures.ok_part);
  names = search rules;
  gives = sym c.dsdt_of.ensures ∙ c.in_ok-dsdt.ensures.ok_part;
  all = search rules;
}
