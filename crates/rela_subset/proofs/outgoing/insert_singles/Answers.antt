use Rattle.std.proofs.Common.{refl, ◌∙◌}
use Rattle.rela_subset.proofs.ByLetter.{ends_all, ends_more, ends_none}
use Rattle.rela_subset.proofs.outgoing.insert_singles.Goals as goal

pub loop-edge-init : goal.loop-edge-init
loop-edge-init c = record { count = refl; adds = ends_none c.args.visited.now.states }

pub loop-edge-preserved : goal.loop-edge-preserved
loop-edge-preserved c = record {
  count = c.in_ok-insert.ensures.count ∙ c.loop-edge.invariant.count;
  adds =
      ends_more c.args.edges.now c.loop-edge.edge-index (record { letter = 0; to = 0 }) c.args.visited.now.states c.loop-edge.visited.states c.insert.new.self.states c.loop-edge-test.true
      c.loop-edge.invariant.adds c.in_ok-insert.ensures.inserted;
}

pub returns-clause-adds : goal.returns-clause-adds
returns-clause-adds c = ends_all c.args.edges.now c.loop-edge.edge-index c.args.visited.now.states c.loop-edge.visited.states c.loop-edge-test.false c.loop-edge.invariant.adds
