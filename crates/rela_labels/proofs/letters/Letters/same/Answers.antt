use Rattle.rela_labels.specs.declared.letters.Letters.TheVariants.{Few, Wide}
use Rattle.rela_labels.proofs.OneWord.{same_when}
use Rattle.rela_labels.proofs.letters.Letters.same.Goals as goal

pub returns-in-Few-Few : goal.returns-in-Few-Few
returns-in-Few-Few c =
    same_when c.args.self.now c.args.other.now (Few c.in-Few-Few.word) (Few c.in-Few-Few.other) c.is_same_word.result c.in-Few-Few.is-0 c.in-Few-Few.is-1
    c.is_same_word.ensures

pub returns-in-Wide-Wide : goal.returns-in-Wide-Wide
returns-in-Wide-Wide c =
    same_when c.args.self.now c.args.other.now (Wide c.in-Wide-Wide.members) (Wide c.in-Wide-Wide.others) c.same.result c.in-Wide-Wide.is-0 c.in-Wide-Wide.is-1
    c.same.ensures
