use Rattle.std.proofs.Common.{sym}
use Rattle.rela_labels.specs.Letters.{has}
use Rattle.rela_labels.specs.Words.{bit_of}
use Rattle.rela_labels.proofs.LettersOfWords.{has_from}
use Rattle.rela_labels.proofs.LoneLetters.{disjoint_as}
use Rattle.rela_labels.proofs.block_set.BlockSetLabelSet.is_disjoint.Goals as goal

pub returns : goal.returns
returns g c =
    disjoint_as (has c.args.self.now) (has c.args.other.now) (bit_of c.self.inside.words) (bit_of c.other.inside.words) _
    (λ k. sym (has_from _ _ _ (record { letters = c.self.view_is; tidy = c.self.invariant.tidy }) k))
    (λ k. sym (has_from _ _ _ (record { letters = c.other.view_is; tidy = c.other.invariant.tidy }) k)) c.disjoint_words.ensures
