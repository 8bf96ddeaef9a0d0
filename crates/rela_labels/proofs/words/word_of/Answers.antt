use Rattle.rela_labels.proofs.WordBits.{bit_of_one}
use Rattle.rela_labels.proofs.words.word_of.Goals as goal

pub returns-then-letter-place : goal.returns-then-letter-place
returns-then-letter-place c = bit_of_one c.args.letter c.args.place c.if-letter-place.true
