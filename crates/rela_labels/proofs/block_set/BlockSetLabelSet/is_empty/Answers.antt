use Rattle.rela_labels.proofs.LettersOfWords.{least_letter, empty_when_none}
use Rattle.rela_labels.proofs.block_set.BlockSetLabelSet.is_empty.Goals as goal

pub returns : goal.returns
returns g c =
    empty_when_none _ _ _ c.is_none.ensures
    (least_letter _ _ _ (record { letters = c.self.view_is; tidy = c.self.invariant.tidy }) c.least_bit.result
    c.least_bit.ensures.none c.least_bit.ensures.member c.least_bit.ensures.least)
