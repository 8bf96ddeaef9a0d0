use Rattle.std.proofs.Common.{◌≡◌, ◌≤◌, [], map, take}
use Rattle.std.specs.List.{All}
use Rattle.rela_nfa.specs.Automaton.{states}
use Rattle.rela_closed.specs.Sets.{AreReached}
use Rattle.rela_closed.proofs.reader.Reader.first.Given as goal

abbrev pub invariant-loop-a : goal.invariant-loop-a
invariant-loop-a g l = record {
  automata : l.self-inside.automata ≡ l.initial.self-inside.automata;
  room : All (λ a. states a ≤ l.self-inside.visited.count) (map (λ a. a.now) l.self-inside.automata.now);
  reached : AreReached (map (λ a. a.now) (take l.a-index l.a-items)) [] (map (λ set. set.items) l.sets.items);
}
