use Rattle.std.proofs.Common.{◌≡◌, ◌+◌, ◌<◌, ◌++◌, ◌∷◌, [], length, take, sym, ap, ◌∙◌, arith, append_assoc}
use Rattle.std.proofs.lemmas.List.{length-map, length-set, take_more_set}
use Rattle.std.specs.Vec.Iter.{into_iter_items}
use Rattle.aml_code.specs.View.{nodes_view}
use Rattle.aml_set.specs.Views.{table_terms, trees_view}
use Rattle.aml_set.specs.declared.tables.Table.{Table}
use Rattle.aml_set.proofs.TableLaws.{put_in_place}
use Rattle.aml_load.proofs.loading.put_terms.Goals as goal

pub loop-nodes-preserved : goal.loop-nodes-preserved
loop-nodes-preserved c =
    let at = c.loop-nodes in
    let ts = at.tables.items in
    let n = at.number in
    let x = c.in-Some.nodes in
    let rest = into_iter_items c.next.new.self in
    let first : into_iter_items at.nodes-iterator ≡ x ∷ rest = c.in-Some.ensures.steps.0 in
    let t = c.index_mut.result.now in
    let value = c.index_mut.ensures.value in
    let whole = ap length c.into_iter-nodes-iterator.ensures.into_iter_gives.0 in
    let inside : n < length ts = omega (arith, ap length first, at.invariant.left, at.invariant.tables, c.requires, whole) in
    record {
      dumps = (put_in_place ts n _ t inside (ap (λ (t : Table). t.dump) value) (ap (λ (t : Table). t.code.now) value)).dumps ∙ at.invariant.dumps;
      codes = (put_in_place ts n _ t inside (ap (λ (t : Table). t.dump) value) (ap (λ (t : Table). t.code.now) value)).codes ∙ at.invariant.codes;
      tables = length-set ts n _ ∙ at.invariant.tables;
      terms = ap (λ l. l ++ trees_view rest)
          (ap (take (n + 1)) (put_in_place ts n _ t inside (ap (λ (t : Table). t.dump) value) (ap (λ (t : Table). t.code.now) value)).terms
          ∙ take_more_set (table_terms ts) n (nodes_view x.items) (omega (arith, inside, length-map ts (λ (t : Table). nodes_view t.terms.items))))
          ∙ append_assoc (take n (table_terms ts)) (nodes_view x.items ∷ []) (trees_view rest)
          ∙ sym (ap (λ l. take n (table_terms ts) ++ trees_view l) first) ∙ at.invariant.terms;
      left = let long = ap length first in let was = at.invariant.left in omega arith;
      many = let gone = c.in-Some.ensures.steps.1 in let short = ap length first in let was = at.invariant.many in omega arith;
    }
