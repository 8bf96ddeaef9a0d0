use Rattle.std.proofs.Common.{Some, IfSome, Err, ◌≡◌, ◌∙◌, ◌<◌, sym, ap, subst, arith, rules}
use Rattle.std.proofs.lemmas.List.Elements.{All-pop}
use Rattle.rela_snapshot.specs.Located.{IsLocated}
use Rattle.rela_snapshot.specs.Pair.{AgreesWith, pair_with}
use Rattle.rela_snapshot.specs.PairsLocated.{IsPairLocated}
use Rattle.rela_snapshot.proofs.FlowLaws.{empty_of}
use Rattle.rela_snapshot.proofs.Kept.{All-push, IfSome-flatten}
use Rattle.rela_snapshot.proofs.PairLoops.{paired_end, paired_more, paired_start, pairing_differs}
use Rattle.rela_snapshot.proofs.pairing.pair_found.Goals as goal

pub loop-flow-init : goal.loop-flow-init
loop-flow-init c = record {
  few = omega (arith, c.in_ok-pairs.ensures.len, c.reverse.ensures.len, c.requires.few);
  paired = λ after is. paired_start after _ _ _ _ _ c.reverse.ensures.items c.reverse-2.ensures.items c.in_ok-pairs.ensures.items is;
  located = search rules;
}

pub loop-flow-preserved : goal.loop-flow-preserved
loop-flow-preserved c = record {
  few = omega (arith, c.in_ok-push.ensures.len, c.in-Some.ensures.len);
  paired = λ after is.
      let agrees = subst (λ o. AgreesWith o c.in-Some.flow) c.flatten.ensures c.in_ok-pair.ensures.agrees in
      let pair = c.in_ok-pair.ensures.pair ∙ ap (λ o. pair_with o c.in-Some.flow) c.flatten.ensures in
      paired_more after _ _ _ c.in-Some.flow _ _ c.pop-in-Some.result _ _ c.in_ok-pair.pair c.in-Some.ensures.items c.pop-in-Some.ensures.items (λ lt. c.pop-in-Some.ensures.variant.1 (subst (λ n. 0 < n) (sym c.loop-flow.found.ok.0) lt)) agrees pair c.in_ok-push.ensures.items
      (c.loop-flow.invariant.paired after is);
  located = λ names level each partners.
      let so_far = c.loop-flow.invariant.located names level each partners in
      let popped = All-pop (λ flow. IsLocated names level flow.graph) c.loop-flow.before.items c.pop.new.self.items (Some c.in-Some.flow) c.in-Some.ensures.items so_far.0 in
      let partner = All-pop (λ one. IfSome one (λ flow. IsLocated names level flow.graph)) c.loop-flow.found.items c.pop-in-Some.new.self.items c.pop-in-Some.result c.pop-in-Some.ensures.items so_far.1 in
      let flat : IfSome c.flatten.result (λ flow. IsLocated names level flow.graph) = rw c.flatten.ensures (IfSome-flatten (λ flow. IsLocated names level flow.graph) c.pop-in-Some.result partner.1) in
      let pair = c.in_ok-pair.ensures.located names level popped.1 flat in
      (popped.0, partner.0, All-push (IsPairLocated names level) c.loop-flow.pairs.items c.push.new.self.items c.in_ok-pair.pair c.in_ok-push.ensures.items so_far.2 pair);
}

pub returns-in_err-pair-clause-differs : goal.returns-in_err-pair-clause-differs
returns-in_err-pair-clause-differs c = λ after is.
    let fault : c.from_residual-in_err-pair.result ≡ Err c.in_err-pair.field-0.0 = grind arith in
    rw fault (λ real. pairing_differs after _ _ _ c.in-Some.flow _ _ c.pop-in-Some.result c.flatten.result _ _ _ c.in-Some.ensures.items c.pop-in-Some.ensures.items (λ lt. c.pop-in-Some.ensures.variant.1 (subst (λ n. 0 < n) (sym c.loop-flow.found.ok.0) lt)) c.flatten.ensures (c.len-row.ensures ∙ c.loop-flow.pairs.ok.0)
    (c.in_err-pair.ensures.differs real) (c.loop-flow.invariant.paired after is))

pub returns-clause-pairs : goal.returns-clause-pairs
returns-clause-pairs c = λ after is. paired_end after _ _ _ _ (empty_of _ (sym c.loop-flow.before.ok.0 ∙ c.in_default.ensures.cases.0)) (c.loop-flow.invariant.paired after is)

pub returns-clause-located : goal.returns-clause-located
returns-clause-located c = λ names level each partners. (c.loop-flow.invariant.located names level each partners).2
