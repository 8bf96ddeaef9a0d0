-- A graph as it looks at one level, with nothing of the other two.
use Rattle.std.specs.Prelude.{ℕ, ◌==◌, ◌&&◌, ◌++◌, Bool, List, nat_eq}
use Rattle.std.specs.Bool.{beq}
use Rattle.std.specs.Cmp.Lexicographic.{pointwise}
use Rattle.std.specs.Hash as fed
use Rattle.std.specs.Hash.{HashWrites}
use Rattle.rela_names.specs.declared.level.Level.{Level}
use Rattle.rela_graph.specs.Paths.{locations}
use Rattle.rela_graph.specs.Topology.{Topology}
use Rattle.rela_graph.specs.declared.node.Link.{Link}

-- what tells a graph's paths at a level: the location of each node, the edges, and the flags of the nodes
pub record Outline : Type 0 where
  pub places : List ℕ
  pub edges : List Link
  pub starts : List Bool
  pub delivered : List Bool
  pub dropped : List Bool

abbrev pub outline_of : Level → Topology → Outline
outline_of level g = record {
  places = locations g level;
  edges = g.edges;
  starts = g.starts;
  delivered = g.delivered;
  dropped = g.dropped;
}

-- whether two edges have the same ends
abbrev pub same_link : Link → Link → Bool
same_link x y = (x.a == y.a) && (x.b == y.b)

-- whether two outlines are equal
abbrev pub same_outline : Outline → Outline → Bool
same_outline x y =
    pointwise nat_eq x.places y.places
    && (pointwise same_link x.edges y.edges
    && (pointwise beq x.starts y.starts
    && (pointwise beq x.delivered y.delivered
    && pointwise beq x.dropped y.dropped)))

-- what a hash of an edge is fed: its ends
abbrev pub link_writes : Link → HashWrites
link_writes link = fed.u32 link.a ++ fed.u32 link.b

-- what a hash of an outline is fed: all of it
abbrev pub outline_writes : Outline → HashWrites
outline_writes o =
    fed.slice fed.u32 o.places
    ++ (fed.slice link_writes o.edges
    ++ (fed.slice fed.bool o.starts
    ++ (fed.slice fed.bool o.delivered
    ++ fed.slice fed.bool o.dropped)))
