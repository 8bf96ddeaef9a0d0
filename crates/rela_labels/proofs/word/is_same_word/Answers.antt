use Rattle.rela_labels.proofs.OneWord.{same_bits}
use Rattle.rela_labels.proofs.word.is_same_word.Goals as goal

pub returns : goal.returns
returns c = same_bits c.args.word c.args.other c.ranges.word.fits c.ranges.other.fits
