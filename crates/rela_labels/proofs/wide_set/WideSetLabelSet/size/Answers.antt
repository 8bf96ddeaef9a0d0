use Rattle.rela_labels.proofs.WideLetters.{wide_size}
use Rattle.rela_labels.proofs.wide_set.WideSetLabelSet.size.Goals as goal

pub returns-clause-size : goal.returns-clause-size
returns-clause-size c = wide_size _ _ _ c.self.view_is
