use Rattle.std.proofs.Common.{false, map, length, ap, subst, sym, get_or, ◌∙◌, arith, ◌≡◌, ◌↔◌, IsTrue}
use Rattle.std.proofs.lemmas.List.{get_or_default}
use Rattle.rela_nfa.specs.Stored.{move_of}
use Rattle.rela_graph.specs.Walk.{IsCyclic}
use Rattle.rela_graph.proofs.Unrolling.{first_list, one_list, all_lists}
use Rattle.rela_graph.proofs.graph.Graph.edge_lists.Goals as goal

pub loop-n-init : goal.loop-n-init
loop-n-init g c =
    let moves = map (move_of g.L.LabelSet.letters) in (
      c.in_ok-push.ensures.taken,
      first_list c.args.self.now c.args.letters.now c.in_ok-edges.edges c.push.new.self (moves c.add_edges_to_starts.new.edges.items) c.in_ok-push.ensures.list c.in_ok-edges.ensures
          c.in_ok-add_edges_to_starts.ensures,
    )

pub loop-n-preserved : goal.loop-n-preserved
loop-n-preserved g c =
    let moves = map (move_of g.L.LabelSet.letters) in (
      c.in_ok-push-2.ensures.taken,
      one_list c.args.self.now c.args.letters.now c.loop-n.edges c.push-in-loop-n.new.self (moves c.add_edges_of_node.new.edges.items) c.loop-n.n c.loop-n.invariant.1
          c.in_ok-push-2.ensures.list c.in_ok-add_edges_of_node.ensures,
    )

pub returns : goal.returns
returns g c =
    let moves = map (move_of g.L.LabelSet.letters) in
    all_lists c.args.self.now c.args.letters.now c.loop-n.edges c.push-2.new.self (moves c.loop-n.leaving.items) c.loop-n.n
    (omega (arith, c.loop-n.auto.n-end, c.loop-n-test.false, ap length c.nodes-count.ensures.nodes)) c.loop-n.invariant.1 c.in_ok-push-3.ensures.list
    (ap moves c.loop-n.invariant.0)

pub add_edges_of_node-requires-clause-cyclic : goal.add_edges_of_node-requires-clause-cyclic
add_edges_of_node-requires-clause-cyclic g c =
    let flags = c.in_ok-cyclic.cyclic.items in
    let n = c.loop-n.n in
    let told : c.index.result.now ≡ get_or flags n false =
    c.index.ensures ∙ get_or_default flags n c.index.result.now false
    (omega (arith, c.loop-n-test.true, ap length c.nodes-count.ensures.nodes, c.in_ok-cyclic.ensures.nodes, c.in_ok-cyclic.cyclic.ok.0)) in
    subst (λ b. IsTrue b ↔ IsCyclic c.args.self.now n) (sym told) (c.in_ok-cyclic.ensures.cyclic n)
