use Rattle.std.proofs.Common.{arith}
use Rattle.rela_labels.proofs.OneWord.{lowest_bit, none_below}
use Rattle.rela_labels.proofs.word.least_of_word.Goals as goal

pub returns-else-word-eq0-clause-member : goal.returns-else-word-eq0-clause-member
returns-else-word-eq0-clause-member c = lowest_bit c.args.word (omega arith) c.ranges.word.fits

pub returns-else-word-eq0-clause-least : goal.returns-else-word-eq0-clause-least
returns-else-word-eq0-clause-least c = none_below c.args.word (omega arith) c.ranges.word.fits
