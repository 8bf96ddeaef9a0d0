use Rattle.std.proofs.Common.{◌≡◌, ◌∙◌, Err, arith}
use Rattle.rela_locations.specs.Network.{alphabet_of}
use Rattle.rela_names.specs.declared.level.Level.{Level}
use Rattle.rela_snapshot.specs.PairsLocated.{ArePairsLocated}
use Rattle.rela_inputs.proofs.GivenLaws.{if_ok_each, ends_inside, ends_later, ends_stopped, halts_seen, no_read_fault}
use Rattle.rela_inputs.proofs.PairLaws.{before_stopped, after_stopped, pairs_given}
use Rattle.rela_inputs.proofs.loading.load_pairs.Goals as goal

pub returns-in_err-earlier-clause-given : goal.returns-in_err-earlier-clause-given
returns-in_err-earlier-clause-given g c =
    let fault : c.from_residual.result ≡ Err c.in_err-earlier.field-0.0 = grind arith in
    rw fault (before_stopped _ _ _ _ _ c.in_err-earlier.field-0.0 c.in_err-earlier.ensures.given)

pub returns-in_err-earlier-clause-ends : goal.returns-in_err-earlier-clause-ends
returns-in_err-earlier-clause-ends g c =
    let fault : c.from_residual.result ≡ Err c.in_err-earlier.field-0.0 = grind arith in
    rw fault (ends_stopped _ _ _ c.in_err-earlier.field-0.0 c.in_err-earlier.ensures.ends)

pub returns-in_err-later-clause-given : goal.returns-in_err-later-clause-given
returns-in_err-later-clause-given g c =
    let fault : c.from_residual-in_err-later.result ≡ Err c.in_err-later.field-0.0 = grind arith in
    let second = rw (c.in_ok-earlier.ensures.same_holds, c.in_ok-earlier.ensures.same_steady) at c.in_err-later.ensures.given in
    rw fault (after_stopped _ _ _ _ _ c.in_ok-earlier.earlier c.in_err-later.field-0.0 c.in_ok-earlier.ensures.given second)

pub returns-in_err-later-clause-ends : goal.returns-in_err-later-clause-ends
returns-in_err-later-clause-ends g c =
    let fault : c.from_residual-in_err-later.result ≡ Err c.in_err-later.field-0.0 = grind arith in
    rw fault (ends_later _ _ _ _ _ c.in_ok-earlier.ensures.ends.ok_keeps_count (ends_stopped _ _ _ c.in_err-later.field-0.0 c.in_err-later.ensures.ends))

pub returns-clause-given : goal.returns-clause-given
returns-clause-given g c =
    let second = rw (c.in_ok-earlier.ensures.same_holds, c.in_ok-earlier.ensures.same_steady) at c.in_ok-later.ensures.given in
    pairs_given _ _ _ _ _ c.in_ok-earlier.earlier c.in_ok-later.later _ c.in_ok-earlier.ensures.given second c.pair_flows.ensures.pairs

pub returns-clause-located : goal.returns-clause-located
returns-clause-located g c =
    if_ok_each (λ (level : Level) pairs. ArePairsLocated (alphabet_of level c.args.locations.now) level pairs.items) c.pair_flows.result
    (λ level. c.pair_flows.ensures.located (alphabet_of level c.args.locations.now) level (c.in_ok-earlier.ensures.located level) (c.in_ok-later.ensures.located level))

pub returns-clause-ends : goal.returns-clause-ends
returns-clause-ends g c =
    ends_inside _ _ _ _ (c.in_ok-later.ensures.ends.ok_keeps_count ∙ c.in_ok-earlier.ensures.ends.ok_keeps_count) c.in_ok-later.ensures.ends.ok_given
    (halts_seen _ c.pair_flows.result c.pair_flows.ensures.pairs.halts)

pub returns-clause-steady_is_no_fault : goal.returns-clause-steady_is_no_fault
returns-clause-steady_is_no_fault g c = λ steady before after.
    no_read_fault _ (halts_seen _ c.pair_flows.result c.pair_flows.ensures.pairs.halts)
