use Rattle.std.proofs.Common.{◌≤◌, map, take}
use Rattle.std.specs.List.{All}
use Rattle.rela_nfa.specs.Automaton.{states}
use Rattle.rela_closed.proofs.reader.most_states.Given as goal

abbrev pub invariant-loop-a : goal.invariant-loop-a
invariant-loop-a g l = All (λ a. states a ≤ l.most) (map (λ a. a.now) (take l.a-index l.automata))
