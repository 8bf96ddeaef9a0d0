use Rattle.std.proofs.Common.{arith, length-drop, length-take, ◌∙◌}
use Rattle.rela_io.proofs.Told.{after_told-more}
use Rattle.rela_io.proofs.writing.write_all.Goals as goal

pub loop-written-preserved : goal.loop-written-preserved
loop-written-preserved g c = record {
  within = omega (arith, simp (length-take, length-drop) at c.in_ok-written.ensures.ok_within);
  appended = after_told-more _ _ _ _ _ _ c.loop-written.invariant.appended c.in_ok-written.ensures.ok_appends;
  no_fault = c.in_ok-written.ensures.ok_keeps_count ∙ c.loop-written.invariant.no_fault;
}
