use Rattle.std.proofs.Common.{rules}
use Rattle.rela_translate.proofs.Markers.{then_front, then_rest, else_front, else_rest}
use Rattle.rela_translate.specs.declared.body.Core.TheViews.{the_lemmas}
use Rattle.rela_translate.proofs.translation.+after_of.Goals as goal

pub after_of-first-requires : goal.after_of-first-requires
after_of-first-requires t c = (search (rules, the_lemmas), then_front _ _ _ _ c.in-Then.is c.get.ensures c.requires)

pub after_of-requires : goal.after_of-requires
after_of-requires t c = (search (rules, the_lemmas), then_rest _ _ _ _ c.in-Then.is c.get-in-Then.ensures c.requires)

pub after_of-requires-in-Else : goal.after_of-requires-in-Else
after_of-requires-in-Else t c = (search (rules, the_lemmas), else_rest _ _ _ _ c.in-Else.is c.get-in-Else-2.ensures c.requires)

pub after_of-requires-in-Else-2 : goal.after_of-requires-in-Else-2
after_of-requires-in-Else-2 t c = (search (rules, the_lemmas), else_front _ _ _ _ c.in-Else.is c.get-in-Else-3.ensures c.requires)
