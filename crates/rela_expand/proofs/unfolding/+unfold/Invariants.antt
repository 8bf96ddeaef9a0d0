use Rattle.rela_expand.proofs.unfolding.+unfold.Given as goal

abbrev pub decreases-unfold : goal.decreases-unfold
decreases-unfold l = l.place
