use Rattle.std.proofs.Common.{◌≡◌, ◌∙◌, ◌≤◌, Some, ap, arith, length, sym}
use Rattle.json.specs.Json.{after_end_array}
use Rattle.rela_snapshot.specs.Located.{IsLocatedIn}
use Rattle.rela_snapshot.specs.SnapshotFlows.{names_of}
use Rattle.rela_snapshot.proofs.Distinct.{distinct_none}
use Rattle.rela_snapshot.proofs.FlowLaws.{few_more, names_more}
use Rattle.rela_snapshot.proofs.Kept.{All-push}
use Rattle.rela_snapshot.proofs.PlainLoops.{all_flows, next_flow, no_flow}
use Rattle.rela_snapshot.proofs.plain.read_flows.Goals as goal

pub flows-init : goal.flows-init
flows-init c = record {
  read = no_flow _ _ _ c.new-flows.ensures.items;
  shorter = omega arith;
  names = c.new-names.ensures ∙ sym (ap names_of c.new-flows.ensures.items);
  few = rw c.new-names.ensures (omega arith);
  distinct = rw c.new-names.ensures distinct_none;
  located = rw c.new-flows.ensures.items (λ k flow lt. absurd (omega arith));
}

pub flows-preserved : goal.flows-preserved
flows-preserved c =
    let l = c.flows in
    let same : c.take_end_array.new.self ≡ l.reader = grind arith in
    let known : length l.reader ≤ length c.args.reader.now = l.invariant.shorter in
    record {
      read = next_flow _ _ _ _ _ _ _ _ _ c.what_holds.ensures.one_more same l.invariant.names c.in_ok-push.ensures.items l.invariant.read c.in_ok-flow.ensures.flow;
      shorter = grind (arith, known);
      names = names_more _ _ _ _ _ l.invariant.names c.in_ok-flow.ensures.names c.in_ok-push.ensures.items;
      few = few_more _ _ _ c.in_ok-flow.ensures.few c.in_ok-flow.ensures.names;
      distinct = c.in_ok-flow.ensures.distinct;
      located = All-push (λ flow. IsLocatedIn c.args.locations.now flow.graph) _ _ _ c.in_ok-push.ensures.items l.invariant.located c.in_ok-flow.ensures.located;
    }

pub returns-clause-flows : goal.returns-clause-flows
returns-clause-flows c =
    let closed : after_end_array c.flows.reader ≡ Some c.take_end_array.new.self = grind arith in
    all_flows _ _ _ _ _ c.what_holds.ensures.array c.flows.invariant.read closed
