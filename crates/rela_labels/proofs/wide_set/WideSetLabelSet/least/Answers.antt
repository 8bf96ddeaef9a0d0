use Rattle.rela_labels.proofs.WideLetters.{wide_least}
use Rattle.rela_labels.proofs.wide_set.WideSetLabelSet.least.Goals as goal

pub returns-clause-none : goal.returns-clause-none
returns-clause-none c =
    (wide_least c.self.inside.size c.self.inside.letters _ c.least.result c.self.invariant c.self.view_is c.least.ensures.none c.least.ensures.member
    c.least.ensures.least).none

pub returns-clause-member : goal.returns-clause-member
returns-clause-member c =
    (wide_least c.self.inside.size c.self.inside.letters _ c.least.result c.self.invariant c.self.view_is c.least.ensures.none c.least.ensures.member
    c.least.ensures.least).member

pub returns-clause-below : goal.returns-clause-below
returns-clause-below c =
    (wide_least c.self.inside.size c.self.inside.letters _ c.least.result c.self.invariant c.self.view_is c.least.ensures.none c.least.ensures.member
    c.least.ensures.least).below

pub returns-clause-least : goal.returns-clause-least
returns-clause-least c =
    (wide_least c.self.inside.size c.self.inside.letters _ c.least.result c.self.invariant c.self.view_is c.least.ensures.none c.least.ensures.member
    c.least.ensures.least).others
