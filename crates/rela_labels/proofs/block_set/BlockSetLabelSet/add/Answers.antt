use Rattle.std.proofs.Common.{refl}
use Rattle.rela_labels.proofs.LettersOfWords.{narrow_with_letter, letter_within}
use Rattle.rela_labels.proofs.block_set.BlockSetLabelSet.add.Goals as goal

pub set_bit-requires : goal.set_bit-requires
set_bit-requires g c = letter_within _ _ _ _ _ c.self.view_is c.self.invariant.tidy refl c.requires

pub invariant_of-self : goal.invariant_of-self
invariant_of-self g c =
    (narrow_with_letter g.row.W _ _ _ _ _ c.self.view_is c.self.invariant c.requires c.set_bit.auto.words
    c.set_bit.ensures.added c.set_bit.ensures.others).narrow

pub returns-clause-size : goal.returns-clause-size
returns-clause-size g c =
    (narrow_with_letter g.row.W _ _ _ _ _ c.self.view_is c.self.invariant c.requires c.set_bit.auto.words
    c.set_bit.ensures.added c.set_bit.ensures.others).added.size_is

pub returns-clause-added : goal.returns-clause-added
returns-clause-added g c =
    (narrow_with_letter g.row.W _ _ _ _ _ c.self.view_is c.self.invariant c.requires c.set_bit.auto.words
    c.set_bit.ensures.added c.set_bit.ensures.others).added.added

pub returns-clause-others : goal.returns-clause-others
returns-clause-others g c =
    (narrow_with_letter g.row.W _ _ _ _ _ c.self.view_is c.self.invariant c.requires c.set_bit.auto.words
    c.set_bit.ensures.added c.set_bit.ensures.others).added.others
