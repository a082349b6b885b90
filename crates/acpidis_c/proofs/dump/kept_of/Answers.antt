use Rattle.std.proofs.Common.{ap, ◌∙◌, take}
use Rattle.std.proofs.lemmas.List.{take_min}
use Rattle.acpidis_c.proofs.dump.kept_of.Goals as goal

pub returns : goal.returns
returns c = ap (λ k. take k c.args.bytes.now) c.min.ensures ∙ take_min 16777217 c.args.bytes.now
