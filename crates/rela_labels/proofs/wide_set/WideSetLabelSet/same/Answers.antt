use Rattle.rela_labels.proofs.WideLetters.{sized_alike, sized_other, wide_same}
use Rattle.rela_labels.proofs.wide_set.WideSetLabelSet.same.Goals as goal

pub same-requires-clause-alike : goal.same-requires-clause-alike
same-requires-clause-alike c =
    sized_alike c.self.inside.size c.self.inside.letters c.other.inside.letters c.self.invariant
    (sized_other _ _ _ _ _ _ c.self.view_is c.other.view_is c.requires c.other.invariant)

pub returns : goal.returns
returns c =
    wide_same c.self.inside.size c.other.inside.size _ _ _ _ c.same.result c.self.view_is c.other.view_is c.self.invariant c.other.invariant c.requires
    c.same.ensures
