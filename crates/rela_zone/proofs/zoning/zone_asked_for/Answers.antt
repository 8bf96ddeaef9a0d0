use Rattle.std.proofs.Common.{◌≡◌, ℕ, true, List, Ok, Err, sym, subst, arith}
use Rattle.rela_expand.specs.Listed.{ListsPathSymbols}
use Rattle.rela_locations.specs.Network.{alphabet_of}
use Rattle.rela_inputs.specs.Answer.{answer_by}
use Rattle.rela_inputs.specs.Specified.{specified_by}
use Rattle.rela_inputs.specs.declared.reading.Halt.TheVariants.{Memory}
use Rattle.rela_zone.specs.Zones.{IsZoneAnswer, ShowsZone}
use Rattle.rela_zone.proofs.Points.{at_check}
use Rattle.rela_zone.proofs.ZoneLaws.{of_found, written}
use Rattle.rela_zone.proofs.zoning.zone_asked_for.Goals as goal

pub returns-in_err-check-clause-zone : goal.returns-in_err-check-clause-zone
unfolding ShowsZone
returns-in_err-check-clause-zone c =
    let fault : c.from_residual.result ≡ Err c.in_err-check.field-0.0 = grind arith in
    let looks = rw c.deref.ensures.value at c.in_err-check.ensures in
    rw fault (record {
      given = (c.steps_chain.ensures true true (at_check _ _ _ (specified_by c.args.asked.now))).stopped c.in_err-check.field-0.0 looks.given;
      halts = looks.halts;
    })

pub zone_of-requires-clause-listed : goal.zone_of-requires-clause-listed
zone_of-requires-clause-listed c =
    let looks = rw c.deref.ensures.value at c.in_ok-check.ensures in
    subst (λ (names : List (List ℕ)). ListsPathSymbols names c.in_ok-check.check.now) (sym c.alphabet-alphabet.ensures)
    (of_found (ListsPathSymbols (alphabet_of c.args.asked.now.level c.args.locations.now)) c.args.name.now c.args.asked.now.checks.items c.in_ok-check.check.now
    looks.given.told_by c.requires.listed)

pub returns-clause-zone : goal.returns-clause-zone
unfolding ShowsZone
returns-clause-zone c =
    let looks = rw c.deref.ensures.value at c.in_ok-check.ensures in
    let names = alphabet_of c.args.asked.now.level c.args.locations.now in
    let check = c.in_ok-check.check.now in
    let answer = answer_by c.in_ok-zone_of.field-0 in
    let is = subst (λ (ns : List (List ℕ)). IsZoneAnswer ns c.args.states check answer) c.alphabet-alphabet.ensures c.in_ok-zone_of.ensures.zone in
    record {
      given = (c.steps_chain.ensures true true (at_check _ _ _ (specified_by c.args.asked.now))).settled check (Ok answer) (λ other same. same)
          looks.given (written names c.args.states check (λ text other. c.zone_texts_are_one.ensures.one check names text other) answer is);
      halts = tt;
    }

pub returns-in_err-zone_of-clause-zone : goal.returns-in_err-zone_of-clause-zone
returns-in_err-zone_of-clause-zone c =
    let fault : c.from_residual-in_err-zone_of.result ≡ Err Memory = grind arith in
    rw fault (record { given = record { told_by = tt; alone = λ t x steps. tt }; halts = tt })
