use Rattle.std.proofs.Common.{◌≡◌, drop}
use Rattle.aml_code.specs.View.{fields_view}
use Rattle.aml_namespace.specs.Known.{Known}
use Rattle.aml_load.specs.Hearing.{with_units}
use Rattle.aml_load.specs.HearingViews.{head_view}
use Rattle.aml_load.proofs.ears.Head.add_units.Given as goal

abbrev pub invariant-loop-field : goal.invariant-loop-field
invariant-loop-field x = record {
  units : (k : Known) → with_units (fields_view (drop x.field-index x.fields)) (head_view k x.self)
      ≡ with_units (fields_view x.fields) (head_view k x.initial.self);
  site : x.self.site ≡ x.initial.self.site;
}
