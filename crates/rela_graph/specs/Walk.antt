-- Walks through a graph, and how they may end.
use Rattle.std.specs.Prelude.{ℕ, ◌⊎◌, List, [], ◌∷◌, ◌++◌, ⊤}
use Rattle.rela_graph.specs.Topology.{Topology, HasEdge, IsStart, IsDelivered, IsDropped}

-- each neighbouring pair is an edge
abbrev pub FollowsEdges : Topology → List ℕ → Type 0
FollowsEdges g [] = ⊤
FollowsEdges g (a ∷ []) = ⊤
FollowsEdges g (a ∷ b ∷ rest) = HasEdge g a b × FollowsEdges g (b ∷ rest)

-- a nonempty list of nodes whose first is a start and whose neighbouring pairs are edges
abbrev pub IsWalk : Topology → List ℕ → Type 0
IsWalk g [] = ⊥
IsWalk g (a ∷ rest) = IsStart g a × FollowsEdges g (a ∷ rest)

-- some list of at least two nodes, each neighbouring pair an edge, begins with a and ends with b
abbrev pub Leads : Topology → ℕ → ℕ → Type 0
Leads g a b = (between : List ℕ) × FollowsEdges g (a ∷ (between ++ b ∷ []))

-- some list of at least two nodes, each neighbouring pair an edge, begins and ends with n
abbrev pub IsCyclic : Topology → ℕ → Type 0
IsCyclic g n = Leads g n n

-- listed as one that drops, or with no edge out and not listed as one that delivers
abbrev pub IsDropNode : Topology → ℕ → Type 0
IsDropNode g n = IsDropped g n ⊎ (((m : ℕ) → ¬ HasEdge g n m) × (¬ IsDelivered g n))
