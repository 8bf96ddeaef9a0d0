use Rattle.std.proofs.Common.{None}
use Rattle.rela_reduce.proofs.Stepping.{steps_push}
use Rattle.rela_reduce.proofs.closed.add_steps.Goals as goal
use Rattle.rela_reduce.proofs.closed.add_steps.Goals.{in-Some+in_ok-push, in_default}

pub loop-arrow-preserved : goal.loop-arrow-preserved
loop-arrow-preserved c = elim c.match-arrow.branch [
  | in-Some+in_ok-push w ↦
      rw w.steps-is
      (steps_push c.args.arrows.now c.loop-arrow.arrow-index (record { label = None; to = 0 }) w.in-Some.label c.args.steps.now.items c.loop-arrow.steps.items w.push.new.self.items
      c.loop-arrow-test.true w.in-Some.is w.in_ok-push.ensures.items c.loop-arrow.invariant)
  | in_default w ↦ rw w.steps-is c.loop-arrow.invariant
]
