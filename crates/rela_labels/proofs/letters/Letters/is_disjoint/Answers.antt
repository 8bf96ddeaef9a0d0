use Rattle.std.proofs.Common.{ap}
use Rattle.rela_labels.specs.WideSets.{has_letter, holds}
use Rattle.rela_labels.specs.Words.{word_has}
use Rattle.rela_labels.proofs.LoneLetters.{disjoint_as}
use Rattle.rela_labels.proofs.letters.Letters.is_disjoint.Goals as goal

pub returns-in-Few-Few : goal.returns-in-Few-Few
returns-in-Few-Few c =
    disjoint_as (has_letter c.args.self.now) (has_letter c.args.other.now) (word_has c.in-Few-Few.word) (word_has c.in-Few-Few.other) _
    (λ k. ap (λ l. has_letter l k) c.in-Few-Few.is-0) (λ k. ap (λ l. has_letter l k) c.in-Few-Few.is-1) c.is_disjoint_word.ensures

pub returns-in-Wide-Wide : goal.returns-in-Wide-Wide
returns-in-Wide-Wide c =
    disjoint_as (has_letter c.args.self.now) (has_letter c.args.other.now) (holds c.in-Wide-Wide.members) (holds c.in-Wide-Wide.others) _
    (λ k. ap (λ l. has_letter l k) c.in-Wide-Wide.is-0) (λ k. ap (λ l. has_letter l k) c.in-Wide-Wide.is-1) c.is_disjoint.ensures
