-- The nodes of a graph, each at an interface of the network.
use Rattle.std.specs.Prelude.{ℕ, List, Result, Ok}
use Rattle.rela_json.specs.declared.error.LoadError.{LoadError}
use Rattle.rela_json.specs.declared.error.LoadError.TheVariants.{UnknownLocation}
use Rattle.rela_json.specs.Results.{◌>>=◌, ok_or}
use Rattle.rela_names.specs.declared.level.Level.TheVariants.{Device, Group}
use Rattle.rela_locations.specs.Network.{Network, location_of}
use Rattle.rela_graph.specs.declared.node.Node.{Node}
use Rattle.rela_snapshot.specs.Interfaces.{interfaces_in}
use Rattle.rela_snapshot.specs.Names.{place_of}

-- the node at the interface of this symbol, in the device and the group in which the interface lies
unfoldable pub node_in : Network → ℕ → Node
node_in network symbol = record {
  interface = symbol;
  device = location_of Device network symbol;
  group = location_of Group network symbol;
}

-- the node at the interface of this name
unfoldable pub node_at : Network → ℕ → List ℕ → Result Node LoadError
node_at network row name = do
  symbol ← ok_or (UnknownLocation row) (place_of (interfaces_in network) name)
  Ok (node_in network symbol)
