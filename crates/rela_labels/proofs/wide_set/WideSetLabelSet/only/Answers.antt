use Rattle.std.proofs.Common.{sym}
use Rattle.rela_labels.specs.Letters.{has}
use Rattle.rela_labels.specs.WideSets.{has_letter}
use Rattle.rela_labels.proofs.LettersOfWords.{has_below}
use Rattle.rela_labels.proofs.LoneLetters.{alone_below, none_alone_as, only_as}
use Rattle.rela_labels.proofs.WideLetters.{has_wide}
use Rattle.rela_labels.proofs.wide_set.WideSetLabelSet.only.Goals as goal

pub returns-clause-only : goal.returns-clause-only
returns-clause-only c =
    only_as (has c.args.self.now) (has_letter c.self.inside.letters) c.only.result
    (λ k. sym (has_wide c.self.inside.size c.self.inside.letters _ c.self.invariant c.self.view_is k)) c.only.ensures.only

pub returns-clause-below : goal.returns-clause-below
returns-clause-below c =
    alone_below _ (has c.args.self.now) c.only.result (has_below c.args.self.now)
    (only_as (has c.args.self.now) (has_letter c.self.inside.letters) c.only.result
    (λ k. sym (has_wide c.self.inside.size c.self.inside.letters _ c.self.invariant c.self.view_is k)) c.only.ensures.only)

pub returns-clause-other : goal.returns-clause-other
returns-clause-other c =
    none_alone_as (has c.args.self.now) (has_letter c.self.inside.letters) c.only.result
    (λ k. sym (has_wide c.self.inside.size c.self.inside.letters _ c.self.invariant c.self.view_is k)) c.only.ensures.other
