use Rattle.rela_labels.proofs.OneWord.{empty_word}
use Rattle.rela_labels.proofs.word.is_empty_word.Goals as goal

pub returns : goal.returns
returns c = empty_word c.args.word c.ranges.word.fits
