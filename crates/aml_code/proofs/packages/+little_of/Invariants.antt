use Rattle.aml_code.proofs.packages.+little_of.Given as goal

abbrev pub decreases-little_of : goal.decreases-little_of
decreases-little_of l = l.width
