-- By which blocks of symbols the paths of graphs can be read.
use Rattle.std.specs.Prelude.{ℕ, ◌+◌, ◌<◌, ◌≤◌, List, All, length}
use Rattle.rela_graph.specs.Alone.{StandsAlone}
use Rattle.rela_graph.specs.Topology.{Topology, symbol_at}
use Rattle.rela_names.specs.Alphabet.{path_symbols}
use Rattle.rela_names.specs.declared.level.Level.{Level}

-- the nodes of the graph stand at locations, which have blocks of their own, and so have `drop` and `loop`
pub record IsGraphReadable (level : Level) (names : List (List ℕ)) (g : Topology)
    (blocks : List ℕ) : Type 0 where
  pub placed : All (λ node. symbol_at level node < length names) g.nodes
  pub symbols : path_symbols names ≤ length blocks
  pub nodes : All (λ node. StandsAlone blocks (symbol_at level node)) g.nodes
  pub drops : StandsAlone blocks (length names)
  pub loops : StandsAlone blocks (length names + 1)

-- both graphs of a flow can be read by the blocks
abbrev pub AreGraphsReadable : Level → List (List ℕ) → Topology → Topology → List ℕ → Type 0
AreGraphsReadable level names pre post blocks =
    IsGraphReadable level names pre blocks × IsGraphReadable level names post blocks
