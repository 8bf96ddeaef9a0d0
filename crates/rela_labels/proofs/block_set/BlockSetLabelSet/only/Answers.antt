use Rattle.std.proofs.Common.{sym}
use Rattle.rela_labels.specs.Letters.{has}
use Rattle.rela_labels.specs.Words.{bit_of}
use Rattle.rela_labels.proofs.LettersOfWords.{has_below, has_from}
use Rattle.rela_labels.proofs.LoneLetters.{alone_below, none_alone_as, only_as}
use Rattle.rela_labels.proofs.block_set.BlockSetLabelSet.only.Goals as goal

pub returns-clause-only : goal.returns-clause-only
returns-clause-only g c =
    only_as (has c.args.self.now) (bit_of c.self.inside.words) c.only_bit.result
    (λ k. sym (has_from _ _ _ (record { letters = c.self.view_is; tidy = c.self.invariant.tidy }) k)) c.only_bit.ensures.only

pub returns-clause-below : goal.returns-clause-below
returns-clause-below g c =
    alone_below _ (has c.args.self.now) c.only_bit.result (has_below c.args.self.now)
    (only_as (has c.args.self.now) (bit_of c.self.inside.words) c.only_bit.result
    (λ k. sym (has_from _ _ _ (record { letters = c.self.view_is; tidy = c.self.invariant.tidy }) k)) c.only_bit.ensures.only)

pub returns-clause-other : goal.returns-clause-other
returns-clause-other g c =
    none_alone_as (has c.args.self.now) (bit_of c.self.inside.words) c.only_bit.result
    (λ k. sym (has_from _ _ _ (record { letters = c.self.view_is; tidy = c.self.invariant.tidy }) k)) c.only_bit.ensures.other
