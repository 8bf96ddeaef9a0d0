use Rattle.std.proofs.Common.{subst}
use Rattle.std.specs.List.{All}
use Rattle.std.proofs.lemmas.List.{take_all}
use Rattle.rela_minimise.specs.Refining.{HasSettled}
use Rattle.rela_minimise.specs.Stored.{lists_of, stage_of}
use Rattle.rela_minimise.proofs.Settling.{settled_more, settles_both}
use Rattle.rela_minimise.proofs.refinement.Refinement.settle_all.Goals as goal

pub loop-q-preserved : goal.loop-q-preserved
loop-q-preserved g c = record {
  settles = settles_both c.args.dfa.now (lists_of c.args.columns.now) (stage_of c.args.self.now) (stage_of c.loop-q.self) (stage_of c.settle.new.self) c.loop-q.invariant.settles c.in_ok-settle.ensures.settles;
  settled = settled_more c.args.dfa.now (lists_of c.args.columns.now) (stage_of c.loop-q.self) (stage_of c.settle.new.self) c.args.waiting.now c.loop-q.q-index c.loop-q-test.true c.in_ok-settle.ensures.settles
      c.loop-q.invariant.settled c.in_ok-settle.ensures.settled;
}

pub returns-clause-settled : goal.returns-clause-settled
returns-clause-settled g c = subst (All (HasSettled (stage_of c.loop-q.self))) (take_all c.loop-q.q-index c.args.waiting.now c.loop-q-test.false) c.loop-q.invariant.settled
