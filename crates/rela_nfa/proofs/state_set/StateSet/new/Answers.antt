use Rattle.std.proofs.Common.{subst, sym}
use Rattle.rela_nfa.specs.StateSet.{AreMarked}
use Rattle.rela_nfa.proofs.Marking.{none_marked}
use Rattle.rela_nfa.proofs.state_set.StateSet.new.Goals as goal

pub invariant_of-result : goal.invariant_of-result
invariant_of-result c = subst (AreMarked c.in_ok-marks.marks) (sym c.new-2.ensures.items) (none_marked c.in_ok-marks.marks c.args.count c.in_ok-marks.ensures)
