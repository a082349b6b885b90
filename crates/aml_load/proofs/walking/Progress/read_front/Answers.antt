use Rattle.aml_namespace.specs.Known.{of_paths}
use Rattle.aml_namespace.proofs.Stands.{stands_alone}
use Rattle.aml_load.specs.Walking.{at_site}
use Rattle.aml_load.proofs.Fronts.{begun_numbered}
use Rattle.aml_load.proofs.Ran.{step_read, step_unread}
use Rattle.aml_load.proofs.walking.Progress.read_front.Goals as goal

pub returns-in-Ok-clause-told : goal.returns-in-Ok-clause-told
returns-in-Ok-clause-told g c =
    let k = c.args.self.now.space in
    let told = c.in-Ok.ensures.told k (begun_numbered k c.args.ears.now c.args.site.now c.requires.begun c.requires.inside) in
    let read = told.1.0 in (
      told.0,
      (
        record {
          there = (_, read.0);
          reads = λ l h.
              step_read c.numbered.result (of_paths k) (at_site k c.args.site.now) l c.args.code.now c.args.rest (rw c.expect_search.ensures at c.numbered.ensures) (stands_alone k l.entries h.space) _ read.1.0;
          next = read.1.1;
          tail = told.1.1.0;
        },
        told.1.1.1,
      ),
    )

pub returns-in-Err-clause-fails : goal.returns-in-Err-clause-fails
returns-in-Err-clause-fails g c l h =
    step_unread c.numbered.result (of_paths c.args.self.now.space) (at_site c.args.self.now.space c.args.site.now) l c.args.code.now c.args.rest (rw c.expect_search.ensures at c.numbered.ensures) (stands_alone c.args.self.now.space l.entries h.space)
    c.in-Err.fault c.in_code.result c.in-Err.ensures.fails c.in_code.ensures
