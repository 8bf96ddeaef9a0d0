use Rattle.std.proofs.Common.{ap}
use Rattle.rela_labels.specs.WideSets.{has_letter, holds}
use Rattle.rela_labels.specs.Words.{word_has}
use Rattle.rela_labels.proofs.LoneLetters.{none_alone_as}
use Rattle.rela_labels.proofs.letters.Letters.only.Goals as goal

pub returns-in-Few-clause-other : goal.returns-in-Few-clause-other
returns-in-Few-clause-other c =
    none_alone_as (has_letter c.args.self.now) (word_has c.in-Few.word) c.only_of_word.result (λ k. ap (λ l. has_letter l k) c.in-Few.is)
    c.only_of_word.ensures.other

pub returns-in-Wide-clause-other : goal.returns-in-Wide-clause-other
returns-in-Wide-clause-other c =
    none_alone_as (has_letter c.args.self.now) (holds c.in-Wide.members) c.only.result (λ k. ap (λ l. has_letter l k) c.in-Wide.is) c.only.ensures.other
