use Rattle.std.proofs.Common.{arith}
use Rattle.rela_build.proofs.ClassLetters.{letters_whole}
use Rattle.rela_build.proofs.letters.Letters.new.Goals as goal

pub letters_below-requires : goal.letters_below-requires
letters_below-requires c = omega (arith, c.requires.blocks.symbols)

pub invariant_of-result : goal.invariant_of-result
invariant_of-result c =
    letters_whole (record { classes = c.args.table.now; path_symbols = c.args.path_symbols; markers = c.args.markers; blocks = c.args.blocks.now })
    c.in_ok-path.path c.in_ok-classes.classes.items c.requires.blocks c.requires.members
    c.in_ok-path.ensures.size c.in_ok-path.ensures.letters c.in_ok-classes.ensures.count c.in_ok-classes.ensures.letters
