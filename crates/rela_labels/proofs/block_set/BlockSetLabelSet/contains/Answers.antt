use Rattle.std.proofs.Common.{◌∙◌, sym}
use Rattle.rela_labels.proofs.LettersOfWords.{has_from, has_below}
use Rattle.rela_labels.proofs.block_set.BlockSetLabelSet.contains.Goals as goal

pub returns-clause-has : goal.returns-clause-has
returns-clause-has g c = c.has_bit.ensures ∙ has_from _ _ _ (record { letters = c.self.view_is; tidy = c.self.invariant.tidy }) c.args.letter

pub returns-clause-below : goal.returns-clause-below
returns-clause-below g c = λ h.
    has_below c.args.self.now c.args.letter
    (sym (has_from _ _ _ (record { letters = c.self.view_is; tidy = c.self.invariant.tidy }) c.args.letter) ∙ sym c.has_bit.ensures ∙ h)
