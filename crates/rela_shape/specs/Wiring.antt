-- What a graph tells of its nodes but for their locations, as bytes.
use Rattle.std.specs.Prelude.{ℕ, ◌++◌, List}
use Rattle.std.specs.Hash as fed
use Rattle.std.specs.Hash.{HashWrites}
use Rattle.std.specs.List.{concat}
use Rattle.rela_graph.specs.Outline.{link_writes}
use Rattle.rela_graph.specs.Topology.{Topology}

-- what the graph feeds a hasher after the locations of its nodes: its edges and the flags of the nodes
abbrev pub wiring_writes : Topology → HashWrites
wiring_writes g =
    fed.slice link_writes g.edges
    ++ (fed.slice fed.bool g.starts
    ++ (fed.slice fed.bool g.delivered
    ++ fed.slice fed.bool g.dropped))

-- the same, byte after byte
unfoldable pub wiring_of : Topology → List ℕ
wiring_of g = concat (wiring_writes g)
