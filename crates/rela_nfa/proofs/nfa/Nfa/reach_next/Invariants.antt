use Rattle.std.proofs.Common.{◌≡◌, ◌<◌, [], take, Some}
use Rattle.std.specs.List.{All}
use Rattle.rela_nfa.specs.Automaton.{states}
use Rattle.rela_nfa.specs.StateSet.{Adds}
use Rattle.rela_nfa.proofs.Growing.{After}
use Rattle.rela_nfa.proofs.nfa.Nfa.reach_next.Given as goal

abbrev pub invariant-loop-q : goal.invariant-loop-q
invariant-loop-q g l = record {
  count : l.set.count ≡ l.fn.set.count;
  within : All (λ q. q < states l.self) l.set.states;
  adds : Adds (After l.self (take l.q-index l.from) (Some l.letter)) [] l.set.states;
}
