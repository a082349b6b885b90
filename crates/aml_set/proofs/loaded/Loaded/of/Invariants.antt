use Rattle.std.proofs.Common.{◌≡◌, ◌++◌, length}
use Rattle.std.specs.Vec.Iter.{into_iter_items, into_iter_len}
use Rattle.aml_set.specs.Views.{codes_view, trees_view, table_codes, table_terms}
use Rattle.aml_set.proofs.loaded.Loaded.of.Given as goal

abbrev pub invariant-loop-table : goal.invariant-loop-table
invariant-loop-table l = record {
  codes : codes_view l.tables.items ++ table_codes (into_iter_items l.table-iterator) ≡ table_codes (into_iter_items l.initial.table-iterator);
  terms : trees_view l.trees.items ++ table_terms (into_iter_items l.table-iterator) ≡ table_terms (into_iter_items l.initial.table-iterator);
  many : into_iter_len l.table-iterator ≡ length (into_iter_items l.table-iterator);
}
