use Rattle.std.proofs.Common.{length, map, ap, ◌∙◌, arith}
use Rattle.std.proofs.lemmas.List.{get_or_default}
use Rattle.rela_nfa.specs.Stored.{move_of}
use Rattle.rela_graph.proofs.Unrolling.{begin_none, begin_more, begin_all}
use Rattle.rela_graph.proofs.graph.Graph.add_edges_to_starts.Goals as goal

pub loop-n-init : goal.loop-n-init
loop-n-init g c =
    let moves = map (move_of g.L.LabelSet.letters) in
    begin_none c.args.self.now c.args.letters.now c.requires.letters (moves c.args.edges.now.items) (ap moves c.requires.empty)

pub loop-n-preserved : goal.loop-n-preserved
loop-n-preserved g c =
    let moves = map (move_of g.L.LabelSet.letters) in
    begin_more c.args.self.now c.args.letters.now c.requires.letters c.loop-n.n c.is_start-is_start.result c.index.result.now (moves c.loop-n.edges.items) (moves c.add_if.new.edges.items)
    (omega (arith, c.loop-n-test.true, ap length c.nodes-n-end.ensures.nodes)) c.is_start-is_start.ensures.start (c.index.ensures
    ∙ get_or_default c.args.letters.now.nodes.items c.loop-n.n c.index.result.now 0 (omega (arith, c.loop-n-test.true, ap length c.nodes-n-end.ensures.nodes, c.requires.letters.nodes)))
    c.loop-n.invariant c.in_ok-add_if.ensures

pub returns : goal.returns
returns g c =
    begin_all c.args.self.now c.args.letters.now c.requires.letters c.nodes-n-end.ensures.topology c.loop-n.n (omega (arith, c.loop-n-test.false, ap length c.nodes-n-end.ensures.nodes))
    (map (move_of g.L.LabelSet.letters) c.loop-n.edges.items) c.loop-n.invariant
