use Rattle.std.proofs.Common.{◌<◌, ◌≤◌, subst, sym, ◌∙◌}
use Rattle.std.specs.List.{All}
use Rattle.rela_trans.specs.Coaccessible.{ends_of}
use Rattle.rela_trans.specs.Stored.{lists_of}
use Rattle.rela_trans.proofs.Coaccessible.{IsPutAt, turned_all, turned_more, turned_none}
use Rattle.rela_trans.proofs.leading.predecessors.Goals as goal

pub loop-p-preserved : goal.loop-p-preserved
loop-p-preserved g c =
    let before = lists_of c.loop-p.lists.items in
    let after = lists_of c.put_at_ends.new.lists.items in
    record {
      each = c.in_ok-put_at_ends.ensures.each ∙ c.loop-p.invariant.each;
      turned =
          turned_more c.args.transducer.now c.loop-p.p before after c.loop-p.invariant.turned
          (subst (λ moves. IsPutAt before after c.loop-p.p (ends_of moves)) c.moves.ensures.moves c.in_ok-put_at_ends.ensures.put);
    }

pub returns-clause-turned : goal.returns-clause-turned
returns-clause-turned g c =
    turned_all c.args.transducer.now c.states-p-end.ensures.machine c.loop-p.p (lists_of c.loop-p.lists.items)
    (subst (λ n. n ≤ c.loop-p.p) c.states-p-end.ensures.states c.loop-p-test.false) c.loop-p.invariant.turned

pub loop-p-init : goal.loop-p-init
loop-p-init g c = record {
  each = c.in_ok-lists.ensures.each ∙ c.states.ensures.states;
  turned = turned_none c.args.transducer.now (lists_of c.in_ok-lists.lists.items) c.in_ok-lists.ensures.empty;
}

pub put_at_ends-requires : goal.put_at_ends-requires
put_at_ends-requires g c = subst (λ n. All (λ edge. edge.to < n) c.moves.result.now) (sym c.loop-p.invariant.each) c.moves.ensures.lead
