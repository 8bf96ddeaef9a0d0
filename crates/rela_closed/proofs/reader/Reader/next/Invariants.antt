use Rattle.std.proofs.Common.{◌≡◌, ℕ, ◌≤◌, List, [], ◌∷◌, ◌++◌, map, take}
use Rattle.std.specs.List.{All}
use Rattle.rela_nfa.specs.Automaton.{states}
use Rattle.rela_closed.specs.Sets.{AreReached}
use Rattle.rela_closed.proofs.reader.Reader.next.Given as goal

abbrev pub invariant-loop-i : goal.invariant-loop-i
invariant-loop-i g l = record {
  automata : l.self-inside.automata ≡ l.initial.self-inside.automata;
  room : All (λ a. states a ≤ l.self-inside.visited.count) (map (λ a. a.now) l.self-inside.automata.now);
  reached : (word : List ℕ) → AreReached (map (λ a. a.now) l.self-inside.automata.now) word (map (λ set. set.items) l.sets)
      → AreReached (map (λ a. a.now) (take l.i l.self-inside.automata.now)) (word ++ l.letter ∷ []) (map (λ set. set.items) l.next.items);
}
