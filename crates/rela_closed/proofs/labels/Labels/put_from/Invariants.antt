use Rattle.std.proofs.Common.{◌≡◌, ℕ, length, take}
use Rattle.std.specs.List.{Contains}
use Rattle.rela_nfa.specs.Automaton.{moves_of}
use Rattle.rela_closed.specs.Splitting.{AreSorted, IsMore}
use Rattle.rela_closed.proofs.labels.Labels.put_from.Given as goal

abbrev pub invariant-loop-q : goal.invariant-loop-q
invariant-loop-q g l = record {
  size : length l.self.alone ≡ length l.fn.self.alone;
  more : IsMore (g.L.LabelSet.letters l.over) l.fn.self l.self;
  sorted : (q : ℕ) → Contains (take l.q-index l.set) q → AreSorted (g.L.LabelSet.letters l.over) l.self (moves_of l.a q);
}
