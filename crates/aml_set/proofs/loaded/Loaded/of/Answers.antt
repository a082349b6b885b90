use Rattle.std.proofs.Common.{◌≡◌, ◌++◌, ◌∷◌, refl, sym, ap, ◌∙◌, length, arith, rules}
use Rattle.std.specs.Vec.Iter.{into_iter_items}
use Rattle.aml_code.specs.View.{nodes_view}
use Rattle.aml_set.specs.Views.{codes_view, trees_view, table_codes, table_terms}
use Rattle.aml_set.specs.declared.tables.Table.{Table}
use Rattle.aml_set.proofs.TableLaws.{one_moved, all_moved}
use Rattle.aml_set.proofs.loaded.Loaded.of.Goals as goal

pub loop-table-init : goal.loop-table-init
loop-table-init c = record {
  codes = ap (λ l. codes_view l ++ table_codes (into_iter_items c.into_iter-table-iterator.result)) c.new-tables.ensures.items;
  terms = ap (λ l. trees_view l ++ table_terms (into_iter_items c.into_iter-table-iterator.result)) c.new-trees.ensures.items;
  many = search rules;
}

pub loop-table-preserved : goal.loop-table-preserved
loop-table-preserved c =
    let at = c.loop-table in
    let t = c.in-Some.table in
    let rest = into_iter_items c.next.new.self in
    let first : into_iter_items at.table-iterator ≡ t ∷ rest = c.in-Some.ensures.steps.0 in record {
      codes = ap (λ l. codes_view l ++ table_codes rest) c.in_ok-push.ensures.items
          ∙ one_moved (λ b. b.now) (λ (t : Table). t.code.now) _ at.tables.items t.code t _ rest refl first at.invariant.codes;
      terms = ap (λ l. trees_view l ++ table_terms rest) c.in_ok-push-2.ensures.items
          ∙ one_moved (λ v. nodes_view v.items) (λ (t : Table). nodes_view t.terms.items) _ at.trees.items t.terms t _ rest refl first at.invariant.terms;
      many = let gone = c.in-Some.ensures.steps.1 in let short = ap length first in let was = at.invariant.many in omega arith;
    }

pub returns : goal.returns
returns c =
    let at = c.loop-table in
    let whole = c.into_iter-table-iterator.ensures.into_iter_gives.0 in
    let none : length (into_iter_items at.table-iterator) ≡ 0 = sym at.invariant.many ∙ c.in-None.ensures.steps.0 in record {
      tables = all_moved (λ b. b.now) (λ (t : Table). t.code.now) _ at.tables.items _ none at.invariant.codes ∙ ap table_codes whole;
      trees = all_moved (λ v. nodes_view v.items) (λ (t : Table). nodes_view t.terms.items) _ at.trees.items _ none at.invariant.terms
          ∙ ap table_terms whole;
      space = refl;
      methods = refl;
    }
