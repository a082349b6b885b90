use Rattle.std.proofs.Common.{◌≡◌, ◌++◌, ◌+◌, ℕ, List, take, [], ◌∷◌, sym, ap, ◌∙◌}
use Rattle.std.proofs.lemmas.List.{take_more, map_push}
use Rattle.aml_set.specs.Views.{table_dumps}
use Rattle.aml_set.specs.declared.tables.Table.{Table}
use Rattle.acpidis_c.proofs.contents.dumps_of.Goals as goal

pub loop-table-preserved : goal.loop-table-preserved
loop-table-preserved c =
    let xs = c.args.tables.now in
    let n = c.loop-table.table-index in
    let x = c.table-item.result in
    let next : take (n + 1) xs ≡ take n xs ++ x ∷ [] = take_more xs n x c.loop-table-test.true
    ∙ ap (λ y. take n xs ++ y ∷ []) (sym c.table-item.is) in
    c.in_ok-push.ensures.items ∙ ap (λ (l : List ℕ). l ++ x.dump ∷ []) c.loop-table.invariant
    ∙ sym (map_push (λ (t : Table). t.dump) (take n xs) x) ∙ ap table_dumps (sym next)
