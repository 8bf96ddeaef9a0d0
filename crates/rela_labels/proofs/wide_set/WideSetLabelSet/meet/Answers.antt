use Rattle.std.proofs.Common.{◌&&◌, ◌∙◌}
use Rattle.rela_labels.proofs.WideLetters.{wide_size, length-letters_in, sized_other, wide_combined}
use Rattle.rela_labels.proofs.wide_set.WideSetLabelSet.meet.Goals as goal

pub meet-requires-clause-second : goal.meet-requires-clause-second
meet-requires-clause-second c = sized_other _ _ _ _ _ _ c.self.view_is c.other.view_is c.requires c.other.invariant

pub returns-clause-size : goal.returns-clause-size
returns-clause-size c = length-letters_in c.self.inside.size c.in_ok-letters.letters ∙ wide_size _ _ _ c.self.view_is

pub returns-clause-both : goal.returns-clause-both
returns-clause-both c =
    wide_combined (◌&&◌) c.self.inside.size c.other.inside.size c.self.inside.letters c.other.inside.letters c.in_ok-letters.letters _ _ c.self.view_is
    c.other.view_is c.self.invariant c.other.invariant c.in_ok-letters.ensures.sized c.in_ok-letters.ensures.both
