use Rattle.rela_labels.specs.Words.{bit_of}
use Rattle.rela_labels.proofs.LoneLetters.{none_alone}
use Rattle.rela_labels.proofs.words.only_bit.Goals as goal

pub returns-in_default-clause-other : goal.returns-in_default-clause-other
returns-in_default-clause-other c = none_alone (bit_of c.args.words.now) c.in_default.ensures.none
