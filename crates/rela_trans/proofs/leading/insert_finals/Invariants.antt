use Rattle.rela_nfa.specs.StateSet.{AreFlagged, Adds}
use Rattle.rela_trans.proofs.Coaccessible.{IsFinalBelow}
use Rattle.rela_trans.proofs.leading.insert_finals.Given as goal

abbrev pub invariant-loop-q : goal.invariant-loop-q
invariant-loop-q g l = record {
  flagged : AreFlagged l.flags l.states.items;
  added : Adds (IsFinalBelow l.transducer l.q) l.initial.states.items l.states.items;
}
