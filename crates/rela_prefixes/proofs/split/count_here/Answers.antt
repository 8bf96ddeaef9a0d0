use Rattle.std.proofs.Common.{arith}
use Rattle.std.proofs.lemmas.Option.{slice_get_within}
use Rattle.rela_prefixes.proofs.Splitting.{one_more_here}
use Rattle.rela_prefixes.proofs.split.count_here.Goals as goal

pub loop-numbered-preserved : goal.loop-numbered-preserved
loop-numbered-preserved c = record {
  counted = omega (arith, c.loop-numbered.invariant.counted);
  same = one_more_here c.args.length c.loop-numbered.count c.loop-numbered.numbered-index c.args.inside.now c.numbered-item.result c.loop-numbered.invariant.counted c.loop-numbered-test.true c.numbered-item.is c.if-numbered-length.false
      c.loop-numbered.invariant.same;
}

pub returns-clause-stops : goal.returns-clause-stops
returns-clause-stops c = λ n at same. absurd (omega (arith, slice_get_within c.args.inside.now c.loop-numbered.count n at, c.loop-numbered.invariant.counted, c.loop-numbered-test.false))
