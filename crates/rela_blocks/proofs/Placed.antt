-- Nodes that stand at locations.
use Rattle.std.proofs.Common.{◌≡◌, ℕ, ◌<◌, List, length, sym, subst}
use Rattle.std.specs.List.{All}
use Rattle.rela_graph.specs.Topology.{Topology, symbol_at}
use Rattle.rela_names.specs.declared.level.Level.{Level}
use Rattle.rela_snapshot.specs.Located.{IsLocated, StandsAt}

below : (names : List (List ℕ)) (level : Level) (g : Topology) → IsLocated names level g → All (λ node. symbol_at level node < length names) g.nodes
unfolding StandsAt
below names level g located = located

-- the same by a level and a number that equal those
pub placed : (names : List (List ℕ)) (level at : Level) (n : ℕ) (g : Topology) → at ≡ level → n ≡ length names → IsLocated names level g
    → All (λ node. symbol_at at node < n) g.nodes
placed names level at n g at_is n_is located =
    subst (λ (l : Level). All (λ node. symbol_at l node < n) g.nodes) (sym at_is)
    (subst (λ (m : ℕ). All (λ node. symbol_at level node < m) g.nodes) (sym n_is) (below names level g located))
