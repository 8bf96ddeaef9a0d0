-- Edges and walks lead to nodes.
use Rattle.std.proofs.Common.{ℕ, ◌+◌, ◌<◌, List, [], ◌∷◌, ◌++◌, length, subst, arith}
use Rattle.std.specs.Prelude.{slice_index}
use Rattle.std.specs.List.{All}
use Rattle.std.proofs.lemmas.List.Elements.{All-contains}
use Rattle.rela_graph.specs.Topology.{Topology, IsTopology, JoinsNodes, HasEdge}
use Rattle.rela_graph.specs.Walk.{IsWalk}
use Rattle.rela_graph.specs.declared.node.Node.{Node}
use Rattle.rela_graph.proofs.Flagged.{flag_within}
use Rattle.rela_graph.proofs.Walking.{ending, walk_back}

pub edge_node : (g : Topology) → IsTopology g → (a b : ℕ) → HasEdge g a b → b < length g.nodes
edge_node g is a b e = (All-contains (JoinsNodes (length g.nodes)) g.edges (record { a = a; b = b }) is.joins e).1

-- a walk ends at a node
pub walk_node : (g : Topology) → IsTopology g → (xs : List ℕ) (n : ℕ) → IsWalk g (xs ++ n ∷ []) → n < length g.nodes
walk_node g is [] n w = let within = flag_within g.starts n w.0 in let len = is.starts in omega arith
walk_node g is (x ∷ xs) n w =
    let e = ending x xs in
    let walk : IsWalk g ((e.0 ++ e.1 ∷ []) ++ n ∷ []) = subst (λ (l : List ℕ). IsWalk g (l ++ n ∷ [])) e.2 w in
    edge_node g is e.1 n (walk_back g e.0 e.1 n walk).1
