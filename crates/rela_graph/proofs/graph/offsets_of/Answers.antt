use Rattle.std.proofs.Common.{◌<◌, ◌≤◌, length, arith, rules}
use Rattle.std.specs.List.Sorted.{IsPartitionPoint}
use Rattle.rela_graph.proofs.Adjacent.{later_node}
use Rattle.rela_graph.proofs.Growing.{each_pushed}
use Rattle.rela_graph.proofs.graph.offsets_of.Goals as goal

pub loop-n-preserved : goal.loop-n-preserved
loop-n-preserved c =
    let edges = c.args.edges.now in
    let offsets = c.loop-n.offsets.items in
    let at = c.edges_before-before.result in
    let n = c.loop-n.n in
    record {
      len = search rules;
      within = rw c.in_ok-push.ensures.items (each_pushed 0 (λ m i. i ≤ length edges) offsets n at c.loop-n.invariant.len c.loop-n.invariant.within c.edges_before-before.ensures.within);
      parted = rw c.in_ok-push.ensures.items
          (each_pushed 0 (λ m i. IsPartitionPoint (λ link. link.a < m) (λ link. m ≤ link.a) edges i) offsets n at c.loop-n.invariant.len c.loop-n.invariant.parted c.edges_before-before.ensures.parted);
      some = c.edges_before-before.ensures.within;
      before = later_node edges n _ at (omega arith) c.edges_before-before.ensures.parted.0;
    }

pub returns : goal.returns
returns c = record {
  len = omega arith;
  within = λ n h. c.loop-n.invariant.within n (omega arith);
  parted = λ n h. c.loop-n.invariant.parted n (omega arith);
}
