use Rattle.std.proofs.Common.{sym, ◌∙◌}
use Rattle.rela_labels.proofs.WideLetters.{length-letters_in, has_sized}
use Rattle.rela_labels.proofs.wide_set.WideSetLabelSet.none.Goals as goal

pub returns-clause-size : goal.returns-clause-size
returns-clause-size c = length-letters_in c.args.size c.none.result

pub returns-clause-empty : goal.returns-clause-empty
returns-clause-empty c = λ k. sym (has_sized c.args.size c.none.result c.none.ensures.sized k) ∙ c.none.ensures.none k
