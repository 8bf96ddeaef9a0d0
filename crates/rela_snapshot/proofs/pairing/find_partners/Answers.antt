use Rattle.std.proofs.Common.{◌∙◌, Some, sym, ap, rules}
use Rattle.std.proofs.lemmas.List.Elements.{All-pop}
use Rattle.rela_snapshot.specs.Located.{IsLocated}
use Rattle.rela_snapshot.specs.SnapshotFlows.{names_of}
use Rattle.rela_snapshot.proofs.FlowLaws.{empty_of}
use Rattle.rela_snapshot.proofs.PartnerLaws.{put_next, put_start, all_put}
use Rattle.rela_snapshot.proofs.pairing.find_partners.Goals as goal

pub loop-flow-init : goal.loop-flow-init
loop-flow-init c = record {
  len = c.in_ok-no_flows.ensures.len ∙ c.len.ensures;
  put = put_start _ _ _ _ _ c.reverse.ensures.items c.in_ok-no_flows.ensures.none c.new.ensures.items;
  located = search rules;
}

pub loop-flow-preserved : goal.loop-flow-preserved
loop-flow-preserved c = record {
  len = c.put.ensures.len ∙ c.loop-flow.invariant.len;
  put = put_next _ _ _ _ _ _ _ _ _ _ (c.in_ok-names.ensures.names ∙ ap names_of c.as_slice.ensures.value) c.in-Some.ensures.items c.requires.before.distinct (sym c.args.before.now.ok.0 ∙ sym c.loop-flow.invariant.len ∙ c.loop-flow.partners.found.ok.0) c.in_ok-put.ensures.found c.in_ok-put.ensures.others c.loop-flow.invariant.put;
  located = λ names level each.
      let so_far = c.loop-flow.invariant.located names level each in
      let popped = All-pop (λ flow. IsLocated names level flow.graph) c.loop-flow.after.items c.pop.new.self.items (Some c.in-Some.flow) c.in-Some.ensures.items so_far.0 in
      let kept = c.put.ensures.located names level popped.1 so_far.1 so_far.2 in
      (popped.0, kept.0, kept.1);
}

pub returns-clause-found : goal.returns-clause-found
returns-clause-found c = let put = all_put _ _ _ _ _ (empty_of _ (sym c.loop-flow.after.ok.0 ∙ c.in_default.ensures.cases.0)) c.requires.after (sym c.loop-flow.partners.found.ok.0 ∙ c.loop-flow.invariant.len ∙ c.args.before.now.ok.0) c.loop-flow.invariant.put in put.0

pub returns-clause-others : goal.returns-clause-others
returns-clause-others c = let put = all_put _ _ _ _ _ (empty_of _ (sym c.loop-flow.after.ok.0 ∙ c.in_default.ensures.cases.0)) c.requires.after (sym c.loop-flow.partners.found.ok.0 ∙ c.loop-flow.invariant.len ∙ c.args.before.now.ok.0) c.loop-flow.invariant.put in put.1

pub returns-clause-located : goal.returns-clause-located
returns-clause-located c names level each = let so_far = c.loop-flow.invariant.located names level each in (so_far.1, so_far.2)
