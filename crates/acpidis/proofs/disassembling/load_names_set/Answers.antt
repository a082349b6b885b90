use Rattle.acpidis.proofs.Common.{table_codes, sym, subst, ◌∙◌}
use Rattle.aml_load.specs.Kept.{AreKeptOf as AreTablesKept}
use Rattle.acpidis.proofs.MeaningLaws.{set_so, none_meant}
use Rattle.acpidis.proofs.disassembling.load_names_set.Goals as goal

pub returns-in-Err-clause-complete : goal.returns-in-Err-clause-complete
returns-in-Err-clause-complete g c =
    none_meant c.args.dumps.now c.args.options.now c.in_ok-order.order (table_codes c.in_ok-tables.tables.items)
    c.in_ok-order.ensures.order c.in_ok-order.ensures.only c.in_ok-tables.ensures.codes c.in-Err.refusal c.in-Err.ensures.complete

pub returns-clause-set : goal.returns-clause-set
returns-clause-set g c =
    let loads = c.in-Ok.ensures.loads in (
      loads.0,
      (
        set_so c.args.dumps.now c.args.options.now c.in_ok-order.order (table_codes c.in_ok-tables.tables.items)
            c.in_ok-order.ensures.order c.in_ok-order.ensures.only c.in_ok-tables.ensures.codes
            c.in-Ok.loaded.0 loads.0 (c.in-Ok.ensures.dumps ∙ c.in_ok-tables.ensures.dumps) loads.1 loads.2 c.in-Ok.ensures.few,
        subst (λ codes. AreTablesKept g.S.TableSink.keeps c.args.sink.now codes loads.0 c.in-Ok.loaded.1.items) (sym loads.1.3.tables) loads.3,
      ),
    )
