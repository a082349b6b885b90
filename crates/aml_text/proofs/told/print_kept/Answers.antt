use Rattle.aml_text.proofs.Common.{◌≡◌, ℕ, ◌+◌, ◌<◌, List, [], ◌∷◌, ◌++◌, Option, get_or, length, drop, sym, ap, ◌∙◌}
use Rattle.aml_text.proofs.Common.{append_assoc, drop_more, prints_then, prints_none, option_map}
use Rattle.aml_text.proofs.Common.{BodyLines, Dump, Table, bodies_lines, name_of}
use Rattle.asl_text.specs.declared.tables.TableText.{TableText}
use Rattle.aml_text.specs.Told.{first_text, kept_blocks, table_left, table_text}
use Rattle.aml_text.proofs.told.print_kept.Goals as goal

pub loop-table-init : goal.loop-table-init
loop-table-init g c = (
  [],
  prints_none g.W.Write.contents c.args.out.now,
  ap (λ (ts : List Table). kept_blocks c.args.tables.dumps.now ts c.args.tables.texts.now (bodies_lines c.args.bodies))
      c.deref-table-items.ensures.value,
)

-- one block more
module _ (dumps : List Dump) (all : List Table) (i : ℕ) (t : Table) (name : List ℕ) (text : Option TableText)
    (texts others : List (Option TableText)) (bs rest : List BodyLines) (done total : List ℕ) where
  turn : i < length all → t ≡ get_or all i t → name ≡ name_of dumps t.dump → text ≡ first_text texts → others ≡ drop 1 texts
      → rest ≡ table_left t text bs → done ++ kept_blocks dumps (drop i all) texts bs ≡ total
      → (done ++ table_text name t text bs) ++ kept_blocks dumps (drop (i + 1) all) others rest ≡ total
  turn inside is named its left bodies was =
      let next = drop (i + 1) all in
      let cut : drop i all ≡ t ∷ next = drop_more all i t inside ∙ ap (λ (x : Table). x ∷ next) (sym is) in
      ap (λ (r : List BodyLines). (done ++ table_text name t text bs) ++ kept_blocks dumps next others r) bodies
      ∙ (λ k. (done ++ table_text (named k) t (its k) bs) ++ kept_blocks dumps next (left k) (table_left t (its k) bs))
      ∙ append_assoc done (table_text (name_of dumps t.dump) t (first_text texts) bs)
      (kept_blocks dumps next (drop 1 texts) (table_left t (first_text texts) bs))
      ∙ ap (λ (ts : List Table). done ++ kept_blocks dumps ts texts bs) (sym cut) ∙ was

pub loop-table-preserved : goal.loop-table-preserved
loop-table-preserved g c =
    let text : Option TableText = option_map (λ t. t.now) c.first_text.result in
    let bs = bodies_lines c.loop-table.rest in
    let done = c.loop-table.invariant.0 in
    let block = table_text c.name_of.result.now c.table-item.result text bs in (
      done ++ block,
      prints_then g.W.Write.contents c.args.out.now c.loop-table.out c.print_table-rest.new.out done block
          c.loop-table.invariant.1 c.print_table-rest.ensures.prints,
      turn c.args.tables.dumps.now c.deref-table-items.result.now c.loop-table.table-index c.table-item.result
          c.name_of.result.now text c.loop-table.texts.now c.other_texts-texts.result.now bs
          (bodies_lines c.print_table-rest.result) done
          (kept_blocks c.args.tables.dumps.now c.args.tables.set.now.tables.items c.args.tables.texts.now (bodies_lines c.args.bodies))
          c.loop-table-test.true c.table-item.is c.name_of.ensures c.first_text.ensures c.other_texts-texts.ensures
          c.print_table-rest.ensures.others c.loop-table.invariant.2,
    )
