use Rattle.rela_minimise.specs.Stored.{stage_of}
use Rattle.rela_minimise.proofs.Assigning.{assigned_more, assigned_none}
use Rattle.rela_minimise.proofs.refinement.Refinement.assign_all.Goals as goal

pub loop-i-init : goal.loop-i-init
loop-i-init c = assigned_none c.args.waiting.now c.args.targets.now (stage_of c.args.self.now)

pub loop-i-preserved : goal.loop-i-preserved
loop-i-preserved c =
    assigned_more c.args.waiting.now c.args.targets.now c.loop-i.i c.loop-i-test.true (stage_of c.args.self.now) (stage_of c.loop-i.self) (stage_of c.assign.new.self) c.loop-i.invariant c.in_ok-assign.ensures
