use Rattle.acpidis.proofs.Common.{◌≡◌, ◌∷◌, take, table_codes, table_dumps, codes_in}
use Rattle.acpidis.proofs.tables.tables_of.Given as goal

abbrev pub invariant-loop-index : goal.invariant-loop-index
invariant-loop-index l = record {
  dumps : table_dumps l.tables.items ≡ l.order.dsdt ∷ take l.index-index l.index-items;
  codes : table_codes l.tables.items ≡ codes_in l.dumps (l.order.dsdt ∷ take l.index-index l.index-items);
}
