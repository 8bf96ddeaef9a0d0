use Rattle.rela_expand.proofs.trees.+row_and_longer.Given as goal

abbrev pub decreases-row_and_longer : goal.decreases-row_and_longer
decreases-row_and_longer l = l.n
