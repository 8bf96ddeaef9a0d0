use Rattle.rela_labels.proofs.LettersOfWords.{zeros_narrow, zeros_none, length-letters_of}
use Rattle.rela_labels.proofs.block_set.BlockSetLabelSet.none.Goals as goal

pub returns-clause-size : goal.returns-clause-size
returns-clause-size g c = length-letters_of _ _

pub returns-clause-empty : goal.returns-clause-empty
returns-clause-empty g c = zeros_none c.args.size g.row.W c.requires.1

pub invariant_of-result : goal.invariant_of-result
invariant_of-result g c = zeros_narrow g.row.W c.args.size c.requires.0 c.requires.1
