use Rattle.std.proofs.Common.{ℕ, sym, subst}
use Rattle.rela_snapshot.specs.PairsLocated.{IsPairLocated}
use Rattle.rela_snapshot.specs.declared.pairing.FlowPair.{FlowPair}
use Rattle.rela_rows.proofs.Deciding.{AreOfFlow, of_flow, of_pair}
use Rattle.rela_rows.proofs.Shared.{verdict_from}
use Rattle.rela_rows.proofs.verdict.Decider.verdict.Goals as goal

pub verdict_on_pair-requires-clause-located : goal.verdict_on_pair-requires-clause-located
verdict_on_pair-requires-clause-located c =
    subst (λ (pair : FlowPair). IsPairLocated c.args.alphabet.now c.args.compiled.now.check.level pair) (sym c.index-pairs-flow.is)
    (c.requires.located c.args.flow c.index-pairs-flow.result c.requires.flow)

pub verdict_on_pair-requires-clause-letters : goal.verdict_on_pair-requires-clause-letters
verdict_on_pair-requires-clause-letters c =
    let decider = c.turn_to.new.self in
    of_pair c.args.alphabet.now c.args.pairs.now c.args.flow c.index-pairs-flow.result c.requires.flow c.index-pairs-flow.is decider.letters
    (subst (λ (flow : ℕ). AreOfFlow c.args.alphabet.now c.args.pairs.now flow decider.letters) c.turn_to.ensures.flow
    (c.turn_to.ensures.decider c.args.alphabet.now c.args.pairs.now c.requires.decider).letters)

pub returns-clause-verdict : goal.returns-clause-verdict
returns-clause-verdict c =
    verdict_from c.args.alphabet.now c.args.pairs.now c.args.flow c.index-pairs-flow.result c.args.compiled.now c.verdict_on_pair.result c.requires.flow
    c.index-pairs-flow.is c.verdict_on_pair.ensures.row c.verdict_on_pair.ensures.texts

pub returns-clause-decider : goal.returns-clause-decider
returns-clause-decider c =
    let names = c.args.alphabet.now in
    let pairs = c.args.pairs.now in
    let letters = c.verdict_on_pair.new.letters in
    record {
      maker = (c.turn_to.ensures.decider names pairs c.requires.decider).maker;
      letters = subst (λ (flow : ℕ). AreOfFlow names pairs flow letters) (sym c.turn_to.ensures.flow)
          (of_flow names pairs c.args.flow c.index-pairs-flow.result c.requires.flow c.index-pairs-flow.is letters c.verdict_on_pair.ensures.letters);
    }
