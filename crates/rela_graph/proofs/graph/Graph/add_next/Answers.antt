use Rattle.std.proofs.Common.{get_or, refl, ◌∙◌}
use Rattle.std.proofs.lemmas.List.{get_or_default}
use Rattle.rela_graph.specs.declared.node.Link.{Link}
use Rattle.rela_graph.proofs.Growing.{none_followed, one_followed, all_followed}
use Rattle.rela_graph.proofs.graph.Graph.add_next.Goals as goal

pub loop-edge-init : goal.loop-edge-init
loop-edge-init c = record {
  count = refl;
  followed = none_followed c.args.self.now c.args.n c.edges_from-edge-items.result.now c.args.set.now.nodes;
}

pub loop-edge-preserved : goal.loop-edge-preserved
loop-edge-preserved c =
    let out = c.edges_from-edge-items.result.now in
    let i = c.loop-edge.edge-index in
    let link : Link = get_or out i (record { a = 0; b = 0 }) in
    record {
      count = c.insert.ensures.count ∙ c.loop-edge.invariant.count;
      followed =
          one_followed c.args.self.now c.args.n out c.args.set.now.nodes i c.loop-edge.set.nodes c.insert.new.self.nodes link c.loop-edge.invariant.followed
          (λ d. get_or_default out i d _ c.loop-edge-test.true) (c.edges_from-edge-items.ensures.each i _ c.loop-edge-test.true).2 c.in_ok-insert.ensures.ok;
    }

pub returns-clause-adds : goal.returns-clause-adds
returns-clause-adds c =
    all_followed c.args.self.now c.args.n c.edges_from-edge-items.result.now c.args.set.now.nodes c.loop-edge.edge-index c.loop-edge.set.nodes
    c.loop-edge.invariant.followed c.loop-edge-test.false c.edges_from-edge-items.ensures.all
