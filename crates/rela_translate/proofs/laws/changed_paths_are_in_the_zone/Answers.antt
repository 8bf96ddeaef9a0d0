use Rattle.rela_translate.proofs.Claims.{claims}
use Rattle.rela_translate.proofs.laws.changed_paths_are_in_the_zone.Goals as goal

pub returns-clause-before : goal.returns-clause-before
returns-clause-before c classes locations body u v = (claims classes locations body).before_in u v

pub returns-clause-after : goal.returns-clause-after
returns-clause-after c classes locations body u v = (claims classes locations body).after_in u v
