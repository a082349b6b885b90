use Rattle.acpidis.proofs.Common.{subst, sym}
use Rattle.std.specs.Io.KnownBytes.{Appends}
use Rattle.acpidis.proofs.running.run.Goals as goal

pub returns-in-Ok-clause-done : goal.returns-in-Ok-clause-done
returns-in-Ok-clause-done g c = λ _. let ends = c.in-Ok.ensures in (ends.0, ends.1.lists, ends.2)

pub returns-in-Ok-clause-one : goal.returns-in-Ok-clause-one
returns-in-Ok-clause-one g c = λ _ status text lists.
    let ends = c.in-Ok.ensures in
    let same = ends.1.one status text lists in (same.0, subst (Appends _ _) (sym same.1) ends.2)
