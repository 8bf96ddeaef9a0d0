-- The graph of a flow of version 2, whose nodes are named by ids.
use Rattle.std.specs.Prelude.{ℕ, List, [], ◌∷◌, ◌++◌, codes, if◌then◌else◌, Option, Some, None, Result, Ok, Err}
use Rattle.serde_json.specs.Data.{Data}
use Rattle.rela_json.specs.declared.error.LoadError.{LoadError}
use Rattle.rela_json.specs.declared.error.LoadError.TheVariants.{RepeatedEntry, UnknownNode}
use Rattle.rela_json.specs.Results.{◌>>=◌, ok_or, try_map, try_fold}
use Rattle.rela_graph.specs.declared.node.Link.{Link}
use Rattle.rela_graph.specs.declared.node.Node.{Node}
use Rattle.rela_locations.specs.Network.{Network}
use Rattle.rela_snapshot.specs.Class.{name_of}
use Rattle.rela_snapshot.specs.Names.{has_name, place_of}
use Rattle.rela_snapshot.specs.Nodes.{node_at}
use Rattle.rela_json.specs.Fields.{part_of, string_of, entries_of, few_entries_of, two_entries_of}
use Rattle.rela_snapshot.specs.Listed.{Listed}

-- nodes and their ids, in order
pub record NamedNodes : Type 0 where
  pub ids : List (List ℕ)
  pub nodes : List Node

abbrev pub nodes_of : List (List ℕ) → List Node → NamedNodes
nodes_of ids nodes = record { ids = ids; nodes = nodes }

-- the id of a node, which no earlier one has
unfoldable pub id_of : List (List ℕ) → ℕ → Data → Result (List ℕ) LoadError
id_of ids row d = do
  id_part ← part_of (codes "id") 47 row d
  bytes ← string_of 48 row id_part
  id ← name_of row bytes
  if has_name ids id then Err (RepeatedEntry row) else Ok id

-- the node of an entry
unfoldable pub at_of : Network → ℕ → Data → Result Node LoadError
at_of network row d = do
  at_part ← part_of (codes "at") 47 row d
  name ← string_of 49 row at_part
  node_at network row name

-- the nodes with one more
unfoldable pub add_node : Network → ℕ → NamedNodes → Data → Result NamedNodes LoadError
add_node network row named d = do
  id ← id_of named.ids row d
  node ← at_of network row d
  Ok (nodes_of (named.ids ++ id ∷ []) (named.nodes ++ node ∷ []))

-- the place of the node with this id
unfoldable pub id_place_of : List (List ℕ) → ℕ → List ℕ → Result ℕ LoadError
id_place_of ids row id = ok_or (UnknownNode row) (place_of ids id)

unfoldable pub named_edge_of : List (List ℕ) → ℕ → Data → Result Link LoadError
named_edge_of ids row d = do
  ends ← two_entries_of 51 row d
  from ← string_of 51 row (Some ends.0)
  to ← string_of 51 row (Some ends.1)
  a ← id_place_of ids row from
  b ← id_place_of ids row to
  Ok (record { a = a; b = b })

unfoldable pub named_place_of : List (List ℕ) → ℕ → ℕ → Data → Result ℕ LoadError
named_place_of ids rule row d = do
  id ← string_of rule row (Some d)
  id_place_of ids row id

-- a list of ids as places
unfoldable pub named_places_of : List (List ℕ) → ℕ → ℕ → Option Data → Result (List ℕ) LoadError
named_places_of ids rule row o = do
  ds ← entries_of rule row o
  try_map (named_place_of ids rule row) ds

-- a list of ids that may be missing
unfoldable pub optional_named_places_of : List (List ℕ) → ℕ → ℕ → Option Data →
    Result (List ℕ) LoadError
optional_named_places_of ids rule row None = Ok []
optional_named_places_of ids rule row (Some d) = named_places_of ids rule row (Some d)

-- the nodes that a member of a flow lists, which has to be there, or which may be missing
unfoldable pub named_list_of : List ℕ → List (List ℕ) → ℕ → ℕ → Data → Result (List ℕ) LoadError
named_list_of name ids rule row d = do
  o ← part_of name 41 row d
  named_places_of ids rule row o

unfoldable pub optional_named_list_of : List ℕ → List (List ℕ) → ℕ → ℕ → Data →
    Result (List ℕ) LoadError
optional_named_list_of name ids rule row d = do
  o ← part_of name 41 row d
  optional_named_places_of ids rule row o

-- the nodes that a flow lists
unfoldable pub named_nodes_of : Network → ℕ → Data → Result NamedNodes LoadError
named_nodes_of network row d = do
  nodes_part ← part_of (codes "nodes") 41 row d
  ds ← few_entries_of 10000 46 row nodes_part
  try_fold (add_node network row) (nodes_of [] []) ds

-- the edges that it lists
unfoldable pub named_edges_of : List (List ℕ) → ℕ → Data → Result (List Link) LoadError
named_edges_of ids row d = do
  edges_part ← part_of (codes "edges") 41 row d
  ds ← few_entries_of 100000 50 row edges_part
  try_map (named_edge_of ids row) ds

-- what it lists of these nodes
unfoldable pub named_listing_of : NamedNodes → ℕ → Data → Result Listed LoadError
named_listing_of named row d = do
  edges ← named_edges_of named.ids row d
  starts ← named_list_of (codes "starts") named.ids 52 row d
  delivered ← optional_named_list_of (codes "delivered") named.ids 53 row d
  dropped ← optional_named_list_of (codes "dropped") named.ids 54 row d
  Ok (record {
    nodes = named.nodes;
    edges = edges;
    starts = starts;
    delivered = delivered;
    dropped = dropped;
  })

-- the graph that is listed
unfoldable pub named_of : Network → ℕ → Data → Result Listed LoadError
named_of network row d = do
  named ← named_nodes_of network row d
  named_listing_of named row d
