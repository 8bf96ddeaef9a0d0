use Rattle.rela_labels.proofs.LettersOfWords.{same_sets}
use Rattle.rela_labels.proofs.block_set.BlockSetLabelSet.same.Goals as goal

pub returns : goal.returns
returns g c =
    same_sets _ _ _ _ _ _ (record { letters = c.self.view_is; tidy = c.self.invariant.tidy })
    (record { letters = c.other.view_is; tidy = c.other.invariant.tidy }) c.requires c.same_words.result c.same_words.ensures
