use Rattle.std.proofs.Common.{◌≡◌, Err, sym, subst, arith}
use Rattle.rela_snapshot.specs.Located.{AreLocated}
use Rattle.rela_snapshot.proofs.PairLoops.{pairing_of, pairing_whole}
use Rattle.rela_snapshot.proofs.pairing.pair.Goals as goal

pub returns-in_err-pairs-clause-differs : goal.returns-in_err-pairs-clause-differs
returns-in_err-pairs-clause-differs c =
    let fault : c.from_residual-in_err-pairs.result ≡ Err c.in_err-pairs.field-0.0 = grind arith in
    rw fault (λ real. pairing_of _ _ _ _ _ c.into_flows-before.ensures.flows c.into_flows.ensures.flows (c.in_err-pairs.ensures.differs c.into_flows.result.items c.in_ok-partners.ensures.found real))

pub returns-clause-pairs : goal.returns-clause-pairs
returns-clause-pairs c =
    let paired = c.in_ok-pairs.ensures.pairs c.into_flows.result.items c.in_ok-partners.ensures.found in
    pairing_of _ _ _ _ _ c.into_flows-before.ensures.flows c.into_flows.ensures.flows (pairing_whole _ _ _ _ _ paired c.in_ok-partners.ensures.others c.in_ok-pair_others.ensures.pairs)

pub returns-clause-located : goal.returns-clause-located
returns-clause-located c = λ names level before after.
    let first = subst (λ flows. AreLocated names level flows) (sym c.into_flows-before.ensures.flows) before in
    let second = subst (λ flows. AreLocated names level flows) (sym c.into_flows.ensures.flows) after in
    let partners = c.in_ok-partners.ensures.located names level second in
    let found = c.in_ok-pairs.ensures.located names level first partners.0 in
    c.in_ok-pair_others.ensures.located names level partners.1 found
