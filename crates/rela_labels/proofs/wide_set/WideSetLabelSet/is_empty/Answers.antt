use Rattle.rela_labels.proofs.WideLetters.{wide_empty}
use Rattle.rela_labels.proofs.wide_set.WideSetLabelSet.is_empty.Goals as goal

pub returns : goal.returns
returns c = wide_empty c.self.inside.size c.self.inside.letters _ c.is_empty.result c.self.invariant c.self.view_is c.is_empty.ensures
