use Rattle.rela_translate.proofs.Meanings.{zone_in, before_in, after_in}
use Rattle.rela_translate.proofs.laws.terms_mean_the_body.Goals as goal

pub returns-clause-zone : goal.returns-clause-zone
returns-clause-zone g c at locations body fits w = zone_in (g.M.Reading.setting.of at) locations body fits w

pub returns-clause-before : goal.returns-clause-before
returns-clause-before g c at locations body fits u v = before_in (g.M.Reading.setting.of at) locations body fits u v

pub returns-clause-after : goal.returns-clause-after
returns-clause-after g c at locations body fits u v = after_in (g.M.Reading.setting.of at) locations body fits u v
