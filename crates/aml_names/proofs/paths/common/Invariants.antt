use Rattle.std.proofs.Common.{◌≡◌, ◌≤◌, ◌-◌, take}
use Rattle.aml_names.proofs.paths.common.Given as goal

abbrev pub invariant-loop-known : goal.invariant-loop-known
invariant-loop-known l = record { within : l.known ≤ l.most; same : take l.known l.some ≡ take l.known l.others }

abbrev pub decreases-loop-known : goal.decreases-loop-known
decreases-loop-known l = l.most - l.known

abbrev pub invariant-loop-known-2 : goal.invariant-loop-known-2
invariant-loop-known-2 l = record { within : l.known ≤ l.most; same : take l.known l.some ≡ take l.known l.others }

abbrev pub decreases-loop-known-2 : goal.decreases-loop-known-2
decreases-loop-known-2 l = l.most - l.known
