use Rattle.rela_build.proofs.ClassLetters.{less_told}
use Rattle.rela_build.proofs.letters.letters_of_class.Goals as goal

pub returns-then-class : goal.returns-then-class
returns-then-class c =
    less_told c.args.blocks.now c.args.path.now c.in_ok-members.members c.as_slice.result.now c.args.class.now c.minus.result c.if-class.true
    c.requires.path c.as_slice.ensures c.in_ok-members.ensures.letters c.minus.ensures.size c.minus.ensures.first_only
