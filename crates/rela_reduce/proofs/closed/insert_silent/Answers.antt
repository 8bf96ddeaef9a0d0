use Rattle.std.proofs.Common.{None, get_or}
use Rattle.rela_reduce.proofs.Stepping.{ends_push, none_is}
use Rattle.rela_reduce.proofs.closed.insert_silent.Goals as goal
use Rattle.rela_reduce.proofs.closed.insert_silent.Goals.{then-is_none+then-not-flags-arrow+in_ok-push, else-is_none}

pub loop-arrow-preserved : goal.loop-arrow-preserved
loop-arrow-preserved c = elim c.if-is_none.branch [
  | then-is_none+then-not-flags-arrow+in_ok-push w ↦
      rw w.ends-is
      (ends_push c.args.arrows.now c.loop-arrow.arrow-index (record { label = None; to = 0 }) c.args.ends.now.items c.loop-arrow.ends.items w.push.new.self.items c.loop-arrow-test.true
      (none_is (get_or c.args.arrows.now c.loop-arrow.arrow-index (record { label = None; to = 0 })).label c.is_none.result c.is_none.ensures w.if-is_none.true) w.in_ok-push.ensures.items
      c.loop-arrow.invariant)
  | else-is_none w ↦ rw w.ends-is c.loop-arrow.invariant
]
