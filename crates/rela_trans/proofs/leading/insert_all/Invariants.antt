use Rattle.std.proofs.Common.{take}
use Rattle.std.specs.List.{Contains}
use Rattle.rela_nfa.specs.StateSet.{AreFlagged, Adds}
use Rattle.rela_trans.proofs.leading.insert_all.Given as goal

abbrev pub invariant-loop-q : goal.invariant-loop-q
invariant-loop-q l = record {
  flagged : AreFlagged l.flags l.states.items;
  added : Adds (Contains (take l.q-index l.more)) l.initial.states.items l.states.items;
}
