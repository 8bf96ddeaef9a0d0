use Rattle.std.proofs.Common.{length, subst, sym}
use Rattle.rela_nfa.specs.StateSet.{AreMarked}
use Rattle.rela_nfa.proofs.Marking.{none_marked}
use Rattle.rela_nfa.proofs.state_set.StateSet.clear.Goals as goal

pub invariant_of-self : goal.invariant_of-self
invariant_of-self c = subst (AreMarked c.clear.new.self) (sym c.clear-2.ensures.items) (none_marked c.clear.new.self (length c.self.inside.marks) c.clear.ensures)
