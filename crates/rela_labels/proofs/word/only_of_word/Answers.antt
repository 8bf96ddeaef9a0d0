use Rattle.rela_labels.specs.Words.{word_has}
use Rattle.rela_labels.proofs.LoneLetters.{none_alone}
use Rattle.rela_labels.proofs.OneWord.{below_word}
use Rattle.rela_labels.proofs.word.only_of_word.Goals as goal

pub returns-in_default-clause-other : goal.returns-in_default-clause-other
returns-in_default-clause-other c = none_alone (word_has c.args.word) c.in_default.ensures.none

pub with_letter-requires : goal.with_letter-requires
with_letter-requires c = below_word c.args.word c.in-Some.least c.ranges.word.fits c.in-Some.ensures.member
