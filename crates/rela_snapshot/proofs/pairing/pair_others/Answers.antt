use Rattle.std.proofs.Common.{◌∙◌, Some, sym, rules}
use Rattle.std.proofs.lemmas.List.Elements.{All-pop}
use Rattle.rela_snapshot.specs.Located.{IsLocated}
use Rattle.rela_snapshot.specs.PairsLocated.{IsPairLocated}
use Rattle.rela_snapshot.proofs.FlowLaws.{empty_of}
use Rattle.rela_snapshot.proofs.Kept.{All-push}
use Rattle.rela_snapshot.proofs.PairLoops.{alone_end, alone_more, alone_start}
use Rattle.rela_snapshot.proofs.pairing.pair_others.Goals as goal

pub loop-flow-init : goal.loop-flow-init
loop-flow-init c = record {
  pairs = alone_start _ _ _ c.reverse.ensures.items;
  located = search rules;
}

pub loop-flow-preserved : goal.loop-flow-preserved
loop-flow-preserved c = record {
  pairs = alone_more _ _ _ _ _ _ _ _ c.in-Some.ensures.items c.in_ok-pair.ensures.pair c.in_ok-push.ensures.items c.loop-flow.invariant.pairs;
  located = λ names level each pairs.
      let so_far = c.loop-flow.invariant.located names level each pairs in
      let popped = All-pop (λ flow. IsLocated names level flow.graph) c.loop-flow.others.items c.pop.new.self.items (Some c.in-Some.flow) c.in-Some.ensures.items so_far.0 in
      let pair = c.in_ok-pair.ensures.located names level popped.1 in
      (popped.0, All-push (IsPairLocated names level) c.loop-flow.pairs.items c.push.new.self.items c.in_ok-pair.pair c.in_ok-push.ensures.items so_far.1 pair);
}

pub returns-clause-pairs : goal.returns-clause-pairs
returns-clause-pairs c = alone_end _ _ _ c.args.others.items (empty_of _ (sym c.loop-flow.others.ok.0 ∙ c.in_default.ensures.cases.0)) c.loop-flow.invariant.pairs

pub returns-clause-located : goal.returns-clause-located
returns-clause-located c = λ names level each pairs. (c.loop-flow.invariant.located names level each pairs).1
