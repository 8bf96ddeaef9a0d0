-- The layered graph of an input, and what a change leaves of it.
use Rattle.std.specs.Prelude.{ℕ, ◌-◌, ◌*◌, ◌==◌, not, if◌then◌else◌, List, [], ◌∷◌, filter}
use Rattle.std.specs.List.{flat_map, range_with_len}
use Rattle.rela_graph.specs.declared.node.Link.{Link}
use Rattle.rela_demo.specs.Names.{Label, label_a, labels_from}

-- the devices at whose interfaces the nodes stand: a001, and then a and b of each layer from the
-- second on
abbrev pub node_labels : ℕ → List Label
node_labels n = label_a 1 ∷ labels_from 2 (n - 1)

-- the places of a and of b of a layer among the nodes, where a layer has them
abbrev pub a_place : ℕ → ℕ
a_place i = 2 * i - 3

abbrev pub b_place : ℕ → ℕ
b_place i = 2 * i - 2

-- the places of the nodes of a layer: the first has a001 alone
abbrev pub layer : ℕ → List ℕ
layer i = if i == 1 then a_place i ∷ [] else a_place i ∷ b_place i ∷ []

-- the edges from a node to both nodes of a layer
abbrev pub edges_from : ℕ → ℕ → List Link
edges_from i k = record { a = k; b = a_place i } ∷ record { a = k; b = b_place i } ∷ []

-- the edges from every node of the layer before
abbrev pub edges_into : ℕ → List Link
edges_into i = flat_map (edges_from i) (layer (i - 1))

-- the edges into the layers from the second to the last
abbrev pub edges_of : ℕ → List Link
edges_of n = flat_map edges_into (range_with_len 2 (n - 1))

-- a graph on these nodes, whose paths start at the first
pub record Graph : Type 0 where
  pub edges : List Link
  pub delivered : List ℕ
  pub dropped : List ℕ

-- each layer leads to the next, and the last delivers
abbrev pub layered : ℕ → Graph
layered n = record { edges = edges_of n; delivered = layer n; dropped = [] }

-- these places but for one
abbrev pub without : ℕ → List ℕ → List ℕ
without k places = filter (λ m. not (m == k)) places

-- the edges but for those into a node
abbrev pub not_into : ℕ → List Link → List Link
not_into k edges = filter (λ edge. not (edge.b == k)) edges

-- b of the last layer is cut off, and all of the layer before drop
abbrev pub cut_off : ℕ → Graph
cut_off n = record {
  edges = not_into (b_place n) (edges_of n);
  delivered = without (b_place n) (layer n);
  dropped = layer (n - 1);
}

-- the same, where there is such a layer
abbrev pub cut : ℕ → Graph
cut n = if n == 1 then layered n else cut_off n

-- a of the last layer delivers no more
abbrev pub lost : ℕ → Graph
lost n = record {
  edges = edges_of n;
  delivered = without (a_place n) (layer n);
  dropped = [];
}
