use Rattle.std.proofs.Common.{◌≡◌, ℕ, ◌<◌, [], length, get_or}
use Rattle.rela_nfa.specs.Stored.{moves_in}
use Rattle.rela_subset.specs.Deterministic.{moves_of}
use Rattle.rela_minimise.specs.Joining.{AreOnto}
use Rattle.rela_minimise.proofs.quotient.edges_of.Given as goal

abbrev pub invariant-loop-q : goal.invariant-loop-q
invariant-loop-q g l = record {
  each : length l.edges.items ≡ l.q-index;
  none : l.joined ≡ [];
  onto : (c : ℕ) → c < l.q-index → AreOnto (length l.dfa.over) l.classes (moves_of l.dfa (get_or l.heads c 0)) (get_or (moves_in g.L.LabelSet.letters l.edges.items) c []);
}
