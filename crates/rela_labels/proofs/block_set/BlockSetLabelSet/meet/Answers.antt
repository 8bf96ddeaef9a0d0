use Rattle.std.proofs.Common.{◌&&◌, refl, ◌∙◌}
use Rattle.rela_labels.proofs.LettersOfWords.{narrow_combined}
use Rattle.rela_labels.proofs.block_set.BlockSetLabelSet.meet.Goals as goal

pub invariant_of-set : goal.invariant_of-set
invariant_of-set g c =
    (narrow_combined g.row.W (◌&&◌) refl _ _ _ _ _ _ _ (c.set.view_is ∙ c.copied-set.ensures) c.other.view_is c.set.invariant c.other.invariant
    c.requires c.meet_words.auto.words c.meet_words.ensures).narrow

pub returns-clause-size : goal.returns-clause-size
returns-clause-size g c =
    (narrow_combined g.row.W (◌&&◌) refl _ _ _ _ _ _ _ (c.set.view_is ∙ c.copied-set.ensures) c.other.view_is c.set.invariant c.other.invariant
    c.requires c.meet_words.auto.words c.meet_words.ensures).combined.size_is

pub returns-clause-both : goal.returns-clause-both
returns-clause-both g c =
    (narrow_combined g.row.W (◌&&◌) refl _ _ _ _ _ _ _ (c.set.view_is ∙ c.copied-set.ensures) c.other.view_is c.set.invariant c.other.invariant
    c.requires c.meet_words.auto.words c.meet_words.ensures).combined.each_letter
