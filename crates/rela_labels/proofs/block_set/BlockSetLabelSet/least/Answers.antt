use Rattle.rela_labels.proofs.LettersOfWords.{least_letter}
use Rattle.rela_labels.proofs.block_set.BlockSetLabelSet.least.Goals as goal

pub returns-clause-none : goal.returns-clause-none
returns-clause-none g c =
    (least_letter _ _ _ (record { letters = c.self.view_is; tidy = c.self.invariant.tidy }) c.least_bit.result
    c.least_bit.ensures.none c.least_bit.ensures.member c.least_bit.ensures.least).none

pub returns-clause-member : goal.returns-clause-member
returns-clause-member g c =
    (least_letter _ _ _ (record { letters = c.self.view_is; tidy = c.self.invariant.tidy }) c.least_bit.result
    c.least_bit.ensures.none c.least_bit.ensures.member c.least_bit.ensures.least).member

pub returns-clause-below : goal.returns-clause-below
returns-clause-below g c =
    (least_letter _ _ _ (record { letters = c.self.view_is; tidy = c.self.invariant.tidy }) c.least_bit.result
    c.least_bit.ensures.none c.least_bit.ensures.member c.least_bit.ensures.least).below

pub returns-clause-least : goal.returns-clause-least
returns-clause-least g c =
    (least_letter _ _ _ (record { letters = c.self.view_is; tidy = c.self.invariant.tidy }) c.least_bit.result
    c.least_bit.ensures.none c.least_bit.ensures.member c.least_bit.ensures.least).others
