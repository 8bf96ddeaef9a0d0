use Rattle.std.proofs.Common.{◌≡◌, ◌↔◌, ◌<◌, length, false, ap, arith, rules}
use Rattle.std.specs.Prelude.{IsTrue}
use Rattle.rela_graph.specs.Walk.{IsCyclic}
use Rattle.rela_graph.proofs.Arriving.{both_then}
use Rattle.rela_graph.proofs.Claiming.{returns_within}
use Rattle.rela_graph.proofs.Cycling.{flags_tell}
use Rattle.rela_graph.proofs.Growing.{each_pushed}
use Rattle.rela_graph.proofs.graph.Graph.cyclic_by_components.Goals as goal

pub loop-n-init : goal.loop-n-init
loop-n-init c = record { len = search rules; flags = λ m below. absurd (omega arith) }

pub loop-n-preserved : goal.loop-n-preserved
loop-n-preserved c =
    let g = c.args.self.now in
    let node : c.loop-n.n < length g.nodes = let nodes = ap length c.nodes-count.ensures.nodes in let below = c.loop-n-test.true in omega arith in
    record {
      len = search rules;
      flags = rw c.in_ok-push.ensures.items
          (each_pushed false (λ m b. IsTrue b ↔ IsCyclic g m) c.loop-n.cyclic.items c.loop-n.n c.any_leads_into.result c.loop-n.invariant.len c.loop-n.invariant.flags
          (both_then c.any_leads_into.ensures
          (returns_within g c.args.components.now c.requires c.nodes-count.ensures.topology c.loop-n.n c.edges_from-edges.result.now node c.edges_from-edges.ensures.each
          c.edges_from-edges.ensures.all)));
    }

count_is : (c : goal.After-loop-n) → length c.loop-n.cyclic.items ≡ length c.args.self.now.nodes
count_is c = let nodes = ap length c.nodes-count.ensures.nodes in let len = c.loop-n.invariant.len in let over = c.loop-n-test.false in let end = c.loop-n.auto.n-end in omega arith

pub returns-clause-nodes : goal.returns-clause-nodes
returns-clause-nodes c = let count = count_is c in search rules

pub returns-clause-cyclic : goal.returns-clause-cyclic
returns-clause-cyclic c =
    flags_tell c.args.self.now c.nodes-count.ensures.topology c.loop-n.cyclic.items (count_is c)
    (λ n below. c.loop-n.invariant.flags n (let count = count_is c in let len = c.loop-n.invariant.len in omega arith))
