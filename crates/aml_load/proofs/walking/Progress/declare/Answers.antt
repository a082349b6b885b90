use Rattle.aml_load.proofs.walking.Progress.declare.Goals as goal

pub declare_of-requires-clause-target : goal.declare_of-requires-clause-target
declare_of-requires-clause-target c = c.requires.plain.among _
