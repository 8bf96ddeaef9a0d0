use Rattle.rela_translate.proofs.Meanings.{before_image_in, after_image_in}
use Rattle.rela_translate.proofs.laws.images_mean_the_body.Goals as goal

pub returns-clause-before : goal.returns-clause-before
returns-clause-before g c at locations body fits v = before_image_in (g.M.Reading.setting.of at) locations body fits v

pub returns-clause-after : goal.returns-clause-after
returns-clause-after g c at locations body fits v = after_image_in (g.M.Reading.setting.of at) locations body fits v
