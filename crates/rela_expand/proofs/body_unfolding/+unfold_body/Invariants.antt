use Rattle.rela_expand.proofs.body_unfolding.+unfold_body.Given as goal

abbrev pub decreases-unfold_body : goal.decreases-unfold_body
decreases-unfold_body l = l.place
