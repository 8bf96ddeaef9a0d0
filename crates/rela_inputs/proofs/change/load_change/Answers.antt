use Rattle.std.proofs.Common.{◌≡◌, ◌∙◌, Err, arith}
use Rattle.rela_locations.specs.Network.{alphabet_of}
use Rattle.rela_inputs.specs.Specified.{specified_by}
use Rattle.rela_inputs.proofs.ChangeLaws.{locations_stopped, pairs_stopped, spec_stopped, loaded, located_checks}
use Rattle.rela_inputs.proofs.GivenLaws.{ends_later, ends_stopped}
use Rattle.rela_inputs.proofs.NameLaws.{checks_apart, flows_apart}
use Rattle.rela_inputs.proofs.change.load_change.Goals as goal

pub returns-in_err-locations-clause-given : goal.returns-in_err-locations-clause-given
returns-in_err-locations-clause-given g c =
    let fault : c.from_residual.result ≡ Err c.in_err-locations.field-0.0 = grind arith in
    rw fault (locations_stopped _ _ _ _ _ _ c.in_err-locations.field-0.0 c.in_err-locations.ensures.given)

pub returns-in_err-locations-clause-ends : goal.returns-in_err-locations-clause-ends
returns-in_err-locations-clause-ends g c =
    let fault : c.from_residual.result ≡ Err c.in_err-locations.field-0.0 = grind arith in
    rw fault (ends_stopped _ _ _ c.in_err-locations.field-0.0 c.in_err-locations.ensures.ends)

pub returns-in_err-pairs-clause-given : goal.returns-in_err-pairs-clause-given
returns-in_err-pairs-clause-given g c =
    let fault : c.from_residual-in_err-pairs.result ≡ Err c.in_err-pairs.field-0.0 = grind arith in
    let pairs = rw (c.in_ok-locations.ensures.same_holds, c.in_ok-locations.ensures.same_steady) at c.in_err-pairs.ensures.given in
    rw fault (pairs_stopped _ _ _ _ _ _ c.in_ok-locations.locations c.in_err-pairs.field-0.0 c.in_ok-locations.ensures.given pairs)

pub returns-in_err-pairs-clause-ends : goal.returns-in_err-pairs-clause-ends
returns-in_err-pairs-clause-ends g c =
    let fault : c.from_residual-in_err-pairs.result ≡ Err c.in_err-pairs.field-0.0 = grind arith in
    rw fault (ends_later _ _ _ _ _ c.in_ok-locations.ensures.ends.ok_keeps_count (ends_stopped _ _ _ c.in_err-pairs.field-0.0 c.in_err-pairs.ensures.ends))

pub returns-in_err-asked-clause-given : goal.returns-in_err-asked-clause-given
returns-in_err-asked-clause-given g c =
    let fault : c.from_residual-in_err-asked.result ≡ Err c.in_err-asked.field-0.0 = grind arith in
    let pairs = rw (c.in_ok-locations.ensures.same_holds, c.in_ok-locations.ensures.same_steady) at c.in_ok-pairs.ensures.given in
    let asked = rw (c.in_ok-pairs.ensures.same_holds, c.in_ok-pairs.ensures.same_steady, c.in_ok-locations.ensures.same_holds, c.in_ok-locations.ensures.same_steady)
    at c.in_err-asked.ensures.given in
    rw fault (spec_stopped _ _ _ _ _ _ c.in_ok-locations.locations c.in_ok-pairs.pairs.items c.in_err-asked.field-0.0 c.in_ok-locations.ensures.given pairs asked)

pub returns-in_err-asked-clause-ends : goal.returns-in_err-asked-clause-ends
returns-in_err-asked-clause-ends g c =
    let fault : c.from_residual-in_err-asked.result ≡ Err c.in_err-asked.field-0.0 = grind arith in
    rw fault (ends_later _ _ _ _ _ (c.in_ok-pairs.ensures.ends.ok_keeps_count ∙ c.in_ok-locations.ensures.ends.ok_keeps_count)
    (ends_stopped _ _ _ c.in_err-asked.field-0.0 c.in_err-asked.ensures.ends))

pub returns-clause-given : goal.returns-clause-given
returns-clause-given g c =
    let pairs = rw (c.in_ok-locations.ensures.same_holds, c.in_ok-locations.ensures.same_steady) at c.in_ok-pairs.ensures.given in
    let asked = rw (c.in_ok-pairs.ensures.same_holds, c.in_ok-pairs.ensures.same_steady, c.in_ok-locations.ensures.same_holds, c.in_ok-locations.ensures.same_steady)
    at c.in_ok-asked.ensures.given in
    loaded _ _ _ _ _ _ c.in_ok-locations.locations c.in_ok-pairs.pairs.items (specified_by c.in_ok-asked.asked) c.in_ok-locations.ensures.given pairs asked

pub returns-clause-located : goal.returns-clause-located
returns-clause-located g c =
    let level = c.in_ok-asked.asked.level in
    located_checks (alphabet_of level c.in_ok-locations.locations) c.in_ok-pairs.pairs.items level c.in_ok-asked.asked.checks.items
    (c.in_ok-pairs.ensures.located level) c.in_ok-asked.ensures.levels

pub returns-clause-names_differ : goal.returns-clause-names_differ
returns-clause-names_differ g c = record {
  checks = checks_apart c.in_ok-locations.locations _ (specified_by c.in_ok-asked.asked) c.in_ok-asked.ensures.given.told_by;
  flows = flows_apart c.in_ok-locations.locations _ _ c.in_ok-pairs.pairs.items c.in_ok-pairs.ensures.given.told_by;
}

pub returns-clause-ends : goal.returns-clause-ends
returns-clause-ends g c = record {
  ok_keeps_count = c.in_ok-asked.ensures.ends.ok_keeps_count ∙ (c.in_ok-pairs.ensures.ends.ok_keeps_count ∙ c.in_ok-locations.ensures.ends.ok_keeps_count);
  ok_given = c.in_ok-asked.ensures.ends.ok_given;
  halts = tt;
}
