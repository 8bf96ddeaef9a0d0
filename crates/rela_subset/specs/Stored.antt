-- What the fields of a deterministic automaton stand for.
use Rattle.std.specs.Prelude.{ℕ, Bool, List}
use Rattle.std.specs.declared.vec.Vec.{Vec}
use Rattle.rela_nfa.specs.Stored.{moves_in}
use Rattle.rela_nfa.specs.declared.edge.Edge.{Edge}
use Rattle.rela_subset.specs.Deterministic.{Deterministic}

abbrev pub deterministic : {L A : Type 0} → (L → List Bool) → List Bool → ℕ → List Bool →
    List (Vec (Edge L) A) → Deterministic
deterministic letters over start finals edges = record {
  over = over;
  start = start;
  finals = finals;
  edges = moves_in letters edges;
}
