use Rattle.std.proofs.Common.{arith, Ok, Err, ap}
use Rattle.std.proofs.lemmas.Result.{on_ok_weaker, IfErr-weaker}
use Rattle.aml_code.specs.Tree.{Trees}
use Rattle.aml_namespace.specs.Known.{of_paths, path_at, BodyView}
use Rattle.aml_namespace.proofs.Stands.{stands_alone}
use Rattle.aml_set.specs.Methods.{method_in}
use Rattle.aml_load.proofs.BodyLaws.{reading_is, forward_is}
use Rattle.aml_names.proofs.StepLaws.{IsBytes}
use Rattle.aml_parse.proofs.Readings.{body_said}
use Rattle.aml_load.proofs.bodies.tell_span.Goals as goal

pub returns-clause-told : goal.returns-clause-told
returns-clause-told g c =
    on_ok_weaker c.tell_terms.result (λ told.
    let fits : IsBytes c.args.bytes.now = λ i. omega (arith, c.type_inv.bytes i) in
    let own = ap (λ (v : BodyView). v.method) c.numbered-names.ensures in (
      told.0,
      (
        record {
          lawful = (_, (body_said (λ (ts : Trees). ts) _ (path_at c.args.space.now c.args.method.now.path) c.args.bytes.now (Ok told.0) fits (rw own at told.1.0)).0);
          reading = λ tables is es s. reading_is (λ (ts : Trees). ts) _ (of_paths c.args.space.now) es tables (method_in c.args.space.now c.args.method.now) c.args.unknown_zero
              c.args.bytes.now (Ok told.0) c.numbered-names.ensures (stands_alone c.args.space.now es s) is fits told.1.0;
        },
        told.1.1,
      ),
    )) c.tell_terms.ensures.told

pub returns-clause-fails : goal.returns-clause-fails
returns-clause-fails g c =
    IfErr-weaker c.tell_terms.result _ _ (λ fault fails tables is es s.
    reading_is (λ (read : Trees). read) _ (of_paths c.args.space.now) es tables (method_in c.args.space.now c.args.method.now) c.args.unknown_zero
    c.args.bytes.now (Err fault) c.numbered-names.ensures (stands_alone c.args.space.now es s) is (λ i. omega (arith, c.type_inv.bytes i))
    fails) c.tell_terms.ensures.fails

pub returns-clause-forward : goal.returns-clause-forward
returns-clause-forward g c =
    IfErr-weaker c.tell_terms.result _ _ (λ fault fails tables is es s.
    forward_is (λ (read : Trees). read) _ (of_paths c.args.space.now) es tables (method_in c.args.space.now c.args.method.now) c.args.unknown_zero
    c.args.bytes.now (Err fault) c.numbered-names.ensures (stands_alone c.args.space.now es s) is
    fails) c.tell_terms.ensures.fails
