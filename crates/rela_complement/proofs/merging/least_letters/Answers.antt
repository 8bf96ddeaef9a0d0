use Rattle.std.proofs.Common.{arith}
use Rattle.rela_complement.proofs.MergedLetters.{block_below}
use Rattle.rela_complement.proofs.merging.least_letters.Goals as goal

pub returns-clause-counted : goal.returns-clause-counted
returns-clause-counted c = λ k below.
    omega (arith, block_below c.args.classes.now k below, c.loop-class-test.false, c.blocks-class-end.ensures.count, c.loop-class.invariant.len)
