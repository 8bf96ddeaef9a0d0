use Rattle.rela_labels.proofs.LettersOfWords.{size_of, narrow_fits}
use Rattle.rela_labels.proofs.block_set.BlockSetLabelSet.size.Goals as goal

pub returns-clause-size : goal.returns-clause-size
returns-clause-size g c = size_of _ _ _ c.self.view_is

pub returns-clause-fits : goal.returns-clause-fits
returns-clause-fits g c = narrow_fits _ _ _ _ c.self.view_is c.self.invariant
