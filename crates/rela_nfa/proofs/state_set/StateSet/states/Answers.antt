use Rattle.rela_nfa.proofs.Flagged.{members_within}
use Rattle.rela_nfa.proofs.state_set.StateSet.states.Goals as goal

pub returns-clause-below : goal.returns-clause-below
returns-clause-below c = rw (← c.self.view_is) (members_within c.self.inside.marks c.self.inside.states.items c.self.invariant.flagged)
