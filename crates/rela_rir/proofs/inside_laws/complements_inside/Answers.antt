use Rattle.rela_rir.proofs.InsideForms as inside
use Rattle.rela_rir.proofs.inside_laws.complements_inside.Goals as goal

pub returns-clause-forced : goal.returns-clause-forced
returns-clause-forced g c at k x = inside.forced_by_parts (g.M.Staging.scene.of at) k x

pub returns-clause-forced_pairs : goal.returns-clause-forced_pairs
returns-clause-forced_pairs g c at k r = inside.forced_by_parts_r (g.M.Staging.scene.of at) k r

pub returns-clause-reached : goal.returns-clause-reached
returns-clause-reached g c at k x part listed has = inside.reached_by_parts (g.M.Staging.scene.of at) k x part listed has

pub returns-clause-reached_pairs : goal.returns-clause-reached_pairs
returns-clause-reached_pairs g c at k r part listed has = inside.reached_by_parts_r (g.M.Staging.scene.of at) k r part listed has
