use Rattle.rela_labels.proofs.WordBits.{set_bit_same, set_bit_other}
use Rattle.rela_labels.proofs.words.set_bit.Goals as goal

pub returns-clause-added : goal.returns-clause-added
returns-clause-added c = set_bit_same c.args.words.now c.args.letter c.requires

pub returns-clause-others : goal.returns-clause-others
returns-clause-others c = λ j apart. set_bit_other c.args.words.now c.args.letter j c.requires apart
