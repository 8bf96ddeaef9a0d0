use Rattle.std.proofs.Common.{rules}
use Rattle.rela_translate.proofs.Markers.{then_front, then_rest, else_front, else_rest}
use Rattle.rela_translate.specs.declared.body.Core.TheViews.{the_lemmas}
use Rattle.rela_translate.proofs.translation.+before_of.Goals as goal

pub before_of-first-requires : goal.before_of-first-requires
before_of-first-requires t c = (search (rules, the_lemmas), then_front _ _ _ _ c.in-Then.is c.get.ensures c.requires)

pub before_of-requires : goal.before_of-requires
before_of-requires t c = (search (rules, the_lemmas), then_rest _ _ _ _ c.in-Then.is c.get-in-Then.ensures c.requires)

pub before_of-requires-in-Else : goal.before_of-requires-in-Else
before_of-requires-in-Else t c = (search (rules, the_lemmas), else_rest _ _ _ _ c.in-Else.is c.get-in-Else-2.ensures c.requires)

pub before_of-requires-in-Else-2 : goal.before_of-requires-in-Else-2
before_of-requires-in-Else-2 t c = (search (rules, the_lemmas), else_front _ _ _ _ c.in-Else.is c.get-in-Else-3.ensures c.requires)
