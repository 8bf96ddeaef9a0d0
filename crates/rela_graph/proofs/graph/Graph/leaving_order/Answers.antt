use Rattle.std.proofs.Common.{◌<◌, length, Some}
use Rattle.std.proofs.lemmas.List.Elements.{All-pop, All-push}
use Rattle.rela_graph.specs.Visit.{node_of}
use Rattle.rela_graph.specs.declared.leaving.Visit.{Visit}
use Rattle.rela_graph.proofs.graph.Graph.leaving_order.Goals as goal

pub loop-visit-preserved-in-Continue-branch-4 : goal.loop-visit-preserved-in-Continue-branch-4
loop-visit-preserved-in-Continue-branch-4 c =
    let P : Visit → Type 0 = λ visit. node_of visit < length c.args.self.now.nodes in
    let parts = All-pop P c.loop-visit.visits.items c.pop.new.self.items (Some c.in-Some.visit) c.in-Some.ensures.items c.loop-visit.invariant.visits in
    let node : c.in-Leave.n < length c.args.self.now.nodes = rw c.in-Leave.is at parts.1 in
    record {
      count = c.loop-visit.invariant.count;
      visits = parts.0;
      order = rw c.in_ok-push-in-Leave.ensures.items (All-push (λ n. n < length c.args.self.now.nodes) c.loop-visit.order.items c.in-Leave.n c.loop-visit.invariant.order node);
    }

pub enter-requires-clause-visits : goal.enter-requires-clause-visits
enter-requires-clause-visits c =
    let P : Visit → Type 0 = λ visit. node_of visit < length c.args.self.now.nodes in
    (All-pop P c.loop-visit.visits.items c.pop.new.self.items (Some c.in-Some.visit) c.in-Some.ensures.items c.loop-visit.invariant.visits).0
