use Rattle.std.proofs.Common.{◌<◌, rules, arith, refl, ap, length, get_or}
use Rattle.rela_graph.proofs.Growing.{spread_none, spread_more, spread_all, added_length}
use Rattle.rela_graph.proofs.graph.Graph.spread.Goals as goal

pub loop-done-init : goal.loop-done-init
loop-done-init c = record {
  done = omega arith;
  count = refl;
  spreads = spread_none c.args.self.now c.args.set.now.nodes;
}

pub loop-done-preserved : goal.loop-done-preserved
loop-done-preserved c =
    let nodes = c.loop-done.set.nodes in
    let within : c.loop-done.done < length nodes = rw c.members.ensures.members at c.loop-done-test.true in
    record {
      done = let grown = added_length nodes c.add_next.new.set.nodes c.in_ok-add_next.ensures.adds in omega arith;
      count = search rules;
      spreads =
          spread_more c.args.self.now c.args.set.now.nodes c.loop-done.done nodes c.add_next.new.set.nodes _
          c.loop-done.invariant.spreads within (ap (λ l. get_or l c.loop-done.done 0) c.members-in-loop-done.ensures.members) c.in_ok-add_next.ensures.adds;
    }

pub returns-clause-spreads : goal.returns-clause-spreads
returns-clause-spreads c =
    spread_all c.args.self.now c.args.set.now.nodes c.loop-done.done c.loop-done.set.nodes c.loop-done.invariant.spreads
    (rw c.members.ensures.members at c.loop-done-test.false)
