use Rattle.std.proofs.Common.{Ok, Err, IfOk}
use Rattle.rela_names.specs.declared.level.Level.{Level}
use Rattle.rela_locations.specs.Network.{alphabet_of}
use Rattle.rela_snapshot.specs.PairsLocated.{ArePairsLocated}
use Rattle.rela_demonstrate.proofs.LayerLaws.{memory_passed, flows_listed, pairs_read}
use Rattle.rela_demonstrate.proofs.demonstrating.read_pairs.Goals as goal

pub returns-in_err-before-clause-layered : goal.returns-in_err-before-clause-layered
returns-in_err-before-clause-layered c = λ n here is.
    memory_passed _ c.from_residual.result c.in_err-before.field-0.0 c.from_residual.ensures.1
    (flows_listed n _ _ _ _ (Err c.in_err-before.field-0.0) c.before-2.ensures here c.in_err-before.ensures.listed is.before)

pub returns-in_err-after-clause-layered : goal.returns-in_err-after-clause-layered
returns-in_err-after-clause-layered c = λ n here is.
    memory_passed _ c.from_residual-in_err-after.result c.in_err-after.field-0.0 c.from_residual-in_err-after.ensures.1
    (flows_listed n _ _ _ _ (Err c.in_err-after.field-0.0) c.after.ensures here c.in_err-after.ensures.listed is.after)

pub returns-clause-layered : goal.returns-clause-layered
returns-clause-layered c = λ n here is.
    let before = flows_listed n _ _ _ _ (Ok c.in_ok-before.before) c.before-2.ensures here c.in_ok-before.ensures.listed is.before in
    let after = flows_listed n _ _ _ _ (Ok c.in_ok-after.after) c.after.ensures here c.in_ok-after.ensures.listed is.after in
    pairs_read n _ _ before after (λ pairs. pairs.items) c.pair_flows.result (c.flows_do_not_differ.ensures n) c.pair_flows.ensures.pairs

pub returns-clause-located : goal.returns-clause-located
returns-clause-located c =
    let names = λ (level : Level). alphabet_of level c.args.locations.now in
    (elim c.pair_flows.result as (λ r. ((level : Level) → IfOk r (λ pairs. ArePairsLocated (names level) level pairs.items))
    → IfOk r (λ pairs. (level : Level) → ArePairsLocated (names level) level pairs.items))
    [ Ok pairs ↦ λ each. each | Err halt ↦ λ each. tt ])
    (λ level. c.pair_flows.ensures.located (names level) level (c.in_ok-before.ensures.located level) (c.in_ok-after.ensures.located level))
