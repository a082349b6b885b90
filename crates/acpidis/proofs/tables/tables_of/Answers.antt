use Rattle.acpidis.proofs.Common.{ℕ, List, [], ◌∷◌, ◌++◌, ◌∙◌, sym, ap, ap₂, arith, map_more, map_push, take_all}
use Rattle.acpidis.proofs.Common.{take_more, bytes_of, Table, table_codes, table_dumps, AreTables, codes_in}
use Rattle.acpidis.proofs.TableLaws.{aml_of, table_at, short_at}
use Rattle.acpidis.proofs.tables.tables_of.Goals as goal

pub table_at-requires-in-loop-index : goal.table_at-requires-in-loop-index
table_at-requires-in-loop-index c =
    let tables : AreTables c.args.dumps.now c.deref-index-items.result.now = rw c.deref-index-items.ensures.value c.requires.tables.2 in record {
      table = table_at c.args.dumps.now c.deref-index-items.result.now c.loop-index.index-index c.loop-index-test.true tables;
      short = short_at c.args.dumps.now c.deref-index-items.result.now c.loop-index.index-index c.loop-index-test.true tables;
    }

pub loop-index-preserved : goal.loop-index-preserved
loop-index-preserved c =
    let dumps = c.args.dumps.now in
    let dsdt = c.args.order.now.dsdt in
    let order = c.deref-index-items.result.now in
    let aml = λ (index : ℕ). aml_of (bytes_of dumps index) in
    let n = c.loop-index.index-index in
    let was = c.loop-index.tables.items in
    let t = c.table_at-in-loop-index.result in
    let pushed = c.in_ok-push-2.ensures.items in record {
      dumps = ap table_dumps pushed ∙ map_push (λ (t : Table). t.dump) was t
          ∙ ap₂ (λ (is : List ℕ) (i : ℕ). is ++ i ∷ []) c.loop-index.invariant.dumps c.table_at-in-loop-index.ensures.of_dump
          ∙ ap (λ (is : List ℕ). dsdt ∷ is) (sym (take_more order n 0 c.loop-index-test.true));
      codes = ap table_codes pushed ∙ map_push (λ (t : Table). t.code.now) was t
          ∙ ap₂ (λ (cs : List (List ℕ)) (x : List ℕ). cs ++ x ∷ []) c.loop-index.invariant.codes c.table_at-in-loop-index.ensures.of_code
          ∙ sym (ap (λ (cs : List (List ℕ)). aml dsdt ∷ cs) (map_more aml order n 0 c.loop-index-test.true));
    }

pub returns-clause-dumps : goal.returns-clause-dumps
returns-clause-dumps c =
    c.loop-index.invariant.dumps ∙ ap (λ (is : List ℕ). c.args.order.now.dsdt ∷ is)
    (take_all c.loop-index.index-index c.deref-index-items.result.now (omega arith) ∙ c.deref-index-items.ensures.value)

pub returns-clause-codes : goal.returns-clause-codes
returns-clause-codes c =
    c.loop-index.invariant.codes ∙ ap (λ (is : List ℕ). codes_in c.args.dumps.now (c.args.order.now.dsdt ∷ is))
    (take_all c.loop-index.index-index c.deref-index-items.result.now (omega arith) ∙ c.deref-index-items.ensures.value)
