use Rattle.std.proofs.Common.{◌≡◌, ◌≤◌, take}
use Rattle.aml_names.proofs.paths.matches.Given as goal

abbrev pub invariant-loop-index : goal.invariant-loop-index
invariant-loop-index l = record { few : l.same ≤ l.index; all : l.same ≡ l.index → take l.index l.some ≡ take l.index l.others }
