use Rattle.rela_labels.proofs.WideLetters.{wide_copy}
use Rattle.rela_labels.proofs.wide_set.WideSetLabelSet.copy.Goals as goal

pub returns-clause-same : goal.returns-clause-same
returns-clause-same c = wide_copy c.self.inside.size c.self.inside.letters _ _ c.self.view_is c.in_ok-letters.ensures.same
