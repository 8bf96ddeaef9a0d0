use Rattle.rela_labels.specs.declared.letters.Letters.TheVariants.{Few, Wide}
use Rattle.rela_labels.proofs.OneWord.{empty_when}
use Rattle.rela_labels.proofs.letters.Letters.is_empty.Goals as goal

pub returns-in-Few : goal.returns-in-Few
returns-in-Few c = empty_when c.args.self.now (Few c.in-Few.word) c.is_empty_word.result c.in-Few.is c.is_empty_word.ensures

pub returns-in-Wide : goal.returns-in-Wide
returns-in-Wide c = empty_when c.args.self.now (Wide c.in-Wide.members) c.is_empty.result c.in-Wide.is c.is_empty.ensures
