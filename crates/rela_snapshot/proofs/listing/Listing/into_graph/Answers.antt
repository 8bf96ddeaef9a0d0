use Rattle.std.proofs.Common.{◌≡◌, ℕ, ◌↔◌, List, Result, Ok, Err, Contains, IfOk, subst}
use Rattle.rela_graph.specs.declared.node.Node.{Node}
use Rattle.rela_graph.specs.declared.node.Link.{Link}
use Rattle.rela_graph.specs.Topology.{Topology, HasEdge, IsStart, IsDelivered, IsDropped}
use Rattle.rela_snapshot.specs.Listed.{Listed, IsGraphOf}
use Rattle.rela_snapshot.proofs.listing.Listing.into_graph.Goals as goal

is_graph : {E : Type 0} (r : Result Topology E) (l : Listed) (nodes : List Node) (edges : List Link) (starts delivered dropped : List ℕ)
    → record { nodes = nodes; edges = edges; starts = starts; delivered = delivered; dropped = dropped } ≡ l
    → IfOk r (λ g. g.nodes ≡ nodes)
    → IfOk r (λ g. (a b : ℕ) → HasEdge g a b ↔ Contains edges (record { a = a; b = b }))
    → IfOk r (λ g. (n : ℕ) → IsStart g n ↔ Contains starts n)
    → IfOk r (λ g. (n : ℕ) → IsDelivered g n ↔ Contains delivered n)
    → IfOk r (λ g. (n : ℕ) → IsDropped g n ↔ Contains dropped n)
    → IfOk r (IsGraphOf l)
is_graph (Ok g) l nodes edges starts delivered dropped same ns es ss ds ps =
    subst (λ (l : Listed). IsGraphOf l g) same (record { nodes = ns; edges = es; starts = ss; delivered = ds; dropped = ps })
is_graph (Err e) l nodes edges starts delivered dropped same ns es ss ds ps = tt

pub returns : goal.returns
returns c =
    is_graph _ _ _ _ _ _ _ (cc (c.as_slice.ensures.value, c.as_slice-2.ensures.value, c.as_slice-3.ensures.value, c.as_slice-4.ensures.value, c.self.view_is))
    c.new.ensures.nodes c.new.ensures.edges c.new.ensures.starts c.new.ensures.delivered c.new.ensures.dropped
