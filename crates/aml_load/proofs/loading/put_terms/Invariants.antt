use Rattle.std.proofs.Common.{◌≡◌, ◌+◌, ◌++◌, length, take}
use Rattle.std.specs.Vec.Iter.{into_iter_items, into_iter_len}
use Rattle.aml_set.specs.Views.{table_codes, table_dumps, table_terms, trees_view}
use Rattle.aml_load.proofs.loading.put_terms.Given as goal

abbrev pub invariant-loop-nodes : goal.invariant-loop-nodes
invariant-loop-nodes l = record {
  dumps : table_dumps l.tables.items ≡ table_dumps l.initial.tables.items;
  codes : table_codes l.tables.items ≡ table_codes l.initial.tables.items;
  tables : length l.tables.items ≡ length l.initial.tables.items;
  terms : take l.number (table_terms l.tables.items) ++ trees_view (into_iter_items l.nodes-iterator)
      ≡ trees_view (into_iter_items l.initial.nodes-iterator);
  left : l.number + length (into_iter_items l.nodes-iterator) ≡ length (into_iter_items l.initial.nodes-iterator);
  many : into_iter_len l.nodes-iterator ≡ length (into_iter_items l.nodes-iterator);
}
