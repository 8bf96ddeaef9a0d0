-- The graph of a flow of version 1, whose nodes are named by their places.
use Rattle.std.specs.Prelude.{ℕ, List, [], length, codes, nat_lt, if◌then◌else◌, Option, Some, None, Result, Ok, Err}
use Rattle.serde_json.specs.Data.{Data}
use Rattle.rela_json.specs.declared.error.LoadError.{LoadError}
use Rattle.rela_json.specs.declared.error.LoadError.TheVariants as load
use Rattle.rela_json.specs.declared.error.ListError.{ListError}
use Rattle.rela_json.specs.declared.error.ListError.TheVariants as index
use Rattle.rela_json.specs.Indexes.{indexes_of}
use Rattle.rela_json.specs.Results.{◌>>=◌, ok_or, try_map}
use Rattle.rela_graph.specs.declared.node.Link.{Link}
use Rattle.rela_graph.specs.declared.node.Node.{Node}
use Rattle.rela_locations.specs.Network.{Network}
use Rattle.rela_snapshot.specs.Nodes.{node_at}
use Rattle.rela_json.specs.Fields.{part_of, string_of, few_entries_of, two_entries_of, whole_number_of}
use Rattle.rela_snapshot.specs.Listed.{Listed}

unfoldable pub node_of : Network → ℕ → Data → Result Node LoadError
node_of network row d = do
  name ← string_of 30 row (Some d)
  node_at network row name

-- the place of a node, of which there are so many
unfoldable pub index_in : ℕ → ℕ → ℕ → Result ℕ LoadError
index_in count row n = if nat_lt n count then Ok n else Err (load.BadIndex row)

unfoldable pub edge_of : ℕ → ℕ → Data → Result Link LoadError
edge_of count row d = do
  ends ← two_entries_of 32 row d
  m ← whole_number_of 32 row (Some ends.0)
  n ← whole_number_of 32 row (Some ends.1)
  a ← index_in count row m
  b ← index_in count row n
  Ok (record { a = a; b = b })

abbrev pub place_error : ℕ → ℕ → ListError → LoadError
place_error rule row index.Shape = load.WrongShape rule row
place_error rule row index.Index = load.BadIndex row
place_error rule row index.Memory = load.Memory

abbrev pub or_place_error : ℕ → ℕ → Result (List ℕ) ListError → Result (List ℕ) LoadError
or_place_error rule row (Ok ns) = Ok ns
or_place_error rule row (Err e) = Err (place_error rule row e)

-- a list of places
unfoldable pub places_of : ℕ → ℕ → ℕ → Data → Result (List ℕ) LoadError
places_of count rule row d = or_place_error rule row (indexes_of count d)

-- a list of places that may be missing
unfoldable pub optional_places_of : ℕ → ℕ → ℕ → Option Data → Result (List ℕ) LoadError
optional_places_of count rule row None = Ok []
optional_places_of count rule row (Some d) = places_of count rule row d

-- the nodes that a flow lists
unfoldable pub numbered_nodes_of : Network → ℕ → Data → Result (List Node) LoadError
numbered_nodes_of network row d = do
  nodes_part ← part_of (codes "nodes") 24 row d
  ds ← few_entries_of 10000 29 row nodes_part
  try_map (node_of network row) ds

-- the edges that it lists, among so many nodes
unfoldable pub numbered_edges_of : ℕ → ℕ → Data → Result (List Link) LoadError
numbered_edges_of count row d = do
  edges_part ← part_of (codes "edges") 24 row d
  ds ← few_entries_of 100000 31 row edges_part
  try_map (edge_of count row) ds

-- the nodes that a member of a flow lists, which has to be there, or which may be missing
unfoldable pub list_of : List ℕ → ℕ → ℕ → ℕ → Data → Result (List ℕ) LoadError
list_of name count rule row d = do
  o ← part_of name 24 row d
  entry ← ok_or (load.WrongShape rule row) o
  places_of count rule row entry

unfoldable pub optional_list_of : List ℕ → ℕ → ℕ → ℕ → Data → Result (List ℕ) LoadError
optional_list_of name count rule row d = do
  o ← part_of name 24 row d
  optional_places_of count rule row o

-- the graph that is listed
unfoldable pub numbered_of : Network → ℕ → Data → Result Listed LoadError
numbered_of network row d = do
  nodes ← numbered_nodes_of network row d
  edges ← numbered_edges_of (length nodes) row d
  starts ← list_of (codes "starts") (length nodes) 33 row d
  delivered ← optional_list_of (codes "delivered") (length nodes) 34 row d
  dropped ← optional_list_of (codes "dropped") (length nodes) 35 row d
  Ok (record {
    nodes = nodes;
    edges = edges;
    starts = starts;
    delivered = delivered;
    dropped = dropped;
  })
