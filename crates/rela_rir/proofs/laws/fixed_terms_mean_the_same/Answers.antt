use Rattle.rela_rir.proofs.ScenesAlike.{same_words, same_pairs}
use Rattle.rela_rir.proofs.laws.fixed_terms_mean_the_same.Goals as goal

pub returns-clause-paths : goal.returns-clause-paths
returns-clause-paths g c at other alike x fixed w = same_words (g.M.Reading.setting.of at) (g.M.Reading.setting.of other) alike x fixed w

pub returns-clause-relations : goal.returns-clause-relations
returns-clause-relations g c at other alike r fixed u v = same_pairs (g.M.Reading.setting.of at) (g.M.Reading.setting.of other) alike r fixed u v
