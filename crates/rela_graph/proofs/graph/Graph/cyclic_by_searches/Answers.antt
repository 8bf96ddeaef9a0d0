use Rattle.std.proofs.Common.{◌≡◌, ◌↔◌, length, false, ap, arith, rules}
use Rattle.rela_graph.specs.Walk.{IsCyclic}
use Rattle.rela_graph.proofs.Cycling.{flags_tell}
use Rattle.rela_graph.proofs.Growing.{each_pushed}
use Rattle.std.specs.Prelude.{IsTrue}
use Rattle.rela_graph.proofs.graph.Graph.cyclic_by_searches.Goals as goal

pub loop-n-init : goal.loop-n-init
loop-n-init c = record { len = search rules; flags = λ m below. absurd (omega arith) }

pub loop-n-preserved : goal.loop-n-preserved
loop-n-preserved c = record {
  len = search rules;
  flags = rw c.in_ok-push.ensures.items
      (each_pushed false (λ m b. IsTrue b ↔ IsCyclic c.args.self.now m) c.loop-n.cyclic.items c.loop-n.n c.in_ok-returns_to.field-0 c.loop-n.invariant.len c.loop-n.invariant.flags
      c.in_ok-returns_to.ensures);
}

count_is : (c : goal.After-loop-n) → length c.loop-n.cyclic.items ≡ length c.args.self.now.nodes
count_is c = let nodes = ap length c.nodes-count.ensures.nodes in let len = c.loop-n.invariant.len in let over = c.loop-n-test.false in let end = c.loop-n.auto.n-end in omega arith

pub returns-clause-nodes : goal.returns-clause-nodes
returns-clause-nodes c = let count = count_is c in search rules

pub returns-clause-cyclic : goal.returns-clause-cyclic
returns-clause-cyclic c =
    flags_tell c.args.self.now c.nodes-count.ensures.topology c.loop-n.cyclic.items (count_is c)
    (λ n below. c.loop-n.invariant.flags n (let count = count_is c in let len = c.loop-n.invariant.len in omega arith))
