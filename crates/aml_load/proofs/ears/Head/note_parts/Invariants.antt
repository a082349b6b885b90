use Rattle.std.proofs.Common.{◌≡◌, drop}
use Rattle.aml_code.specs.View.{parts_view}
use Rattle.aml_namespace.specs.Known.{Known}
use Rattle.aml_load.specs.Hearing.{behind_head}
use Rattle.aml_load.specs.HearingViews.{head_view}
use Rattle.aml_load.proofs.ears.Head.note_parts.Given as goal

abbrev pub invariant-loop-part : goal.invariant-loop-part
invariant-loop-part x = record {
  noted : (k : Known) → behind_head (parts_view (drop x.part-index x.parts)) (head_view k x.self)
      ≡ behind_head (parts_view x.parts) (head_view k x.initial.self);
  site : x.self.site ≡ x.initial.self.site;
}
