use Rattle.std.proofs.Common.{arith}
use Rattle.rela_restriction.proofs.MovedSets.{moving_all}
use Rattle.rela_restriction.proofs.moved.moved.Goals as goal

pub returns : goal.returns
returns g c =
    moving_all c.args.size c.args.by (g.L.LabelSet.letters c.args.set.now) (g.L.LabelSet.letters c.loop-letter.made) c.loop-letter.letter
    (omega (arith, c.loop-letter-test.false, c.loop-letter.auto.letter-end, c.size-letter-end.ensures.size)) c.requires.room c.loop-letter.invariant
