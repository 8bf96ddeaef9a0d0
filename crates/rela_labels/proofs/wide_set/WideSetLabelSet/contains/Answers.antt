use Rattle.std.proofs.Common.{sym, ◌∙◌}
use Rattle.rela_labels.proofs.LettersOfWords.{has_below}
use Rattle.rela_labels.proofs.WideLetters.{has_wide}
use Rattle.rela_labels.proofs.wide_set.WideSetLabelSet.contains.Goals as goal

pub returns-clause-has : goal.returns-clause-has
returns-clause-has c = c.contains.ensures ∙ has_wide _ _ _ c.self.invariant c.self.view_is c.args.letter

pub returns-clause-below : goal.returns-clause-below
returns-clause-below c = λ h.
    has_below c.args.self.now c.args.letter (sym (c.contains.ensures ∙ has_wide _ _ _ c.self.invariant c.self.view_is c.args.letter) ∙ h)
