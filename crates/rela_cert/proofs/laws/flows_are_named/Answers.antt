use Rattle.std.proofs.Common.{List, subst, arith}
use Rattle.std.specs.List.{All}
use Rattle.std.proofs.lemmas.List.{take_all}
use Rattle.std.proofs.lemmas.List.Elements.{All-more}
use Rattle.rela_names.specs.Name.{IsName}
use Rattle.rela_snapshot.specs.declared.pairing.FlowPair.{FlowPair}
use Rattle.rela_cert.proofs.laws.flows_are_named.Goals as goal

pub loop-pair-preserved : goal.loop-pair-preserved
loop-pair-preserved c =
    All-more (λ (pair : FlowPair). IsName pair.class.name) c.args.pairs.now c.loop-pair.pair-index c.pair-item.result c.loop-pair-test.true c.loop-pair.invariant
    (subst (λ (pair : FlowPair). IsName pair.class.name) c.pair-item.is c.as_bytes.ensures.name)

pub returns : goal.returns
returns c =
    subst (λ (pairs : List FlowPair). All (λ (pair : FlowPair). IsName pair.class.name) pairs) (take_all c.loop-pair.pair-index c.args.pairs.now (omega arith)) c.loop-pair.invariant
