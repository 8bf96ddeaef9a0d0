use Rattle.std.proofs.Common.{List, map, Contains, subst, sym, Bor}
use Rattle.std.proofs.lemmas.List.Elements.{Contains-get_or}
use Rattle.rela_translate.specs.Checked.{Checked}
use Rattle.rela_same_checks.proofs.Growing.{given_more, places_more}
use Rattle.rela_same_checks.proofs.asked.asked_by.Goals as goal

pub loop-check-preserved : goal.loop-check-preserved
loop-check-preserved c =
    let checks = c.args.checks.now in
    let check = c.check-item.result in
    let asked : List Checked = map (λ (one : Bor Checked). one.now) c.loop-check.asked.items in
    let more : List Checked = map (λ (one : Bor Checked). one.now) c.place_of.new.asked.items in
    record {
      places =
          places_more asked more checks c.loop-check.places.items c.push.new.self.items check c.loop-check.check-index c.in_ok-place_of.field-0
          c.loop-check-test.true c.check-item.is c.loop-check.invariant.places c.in_ok-place_of.ensures.asked c.in_ok-place_of.ensures.place
          c.in_ok-push.ensures.items;
      given =
          given_more asked more checks check
          (subst (Contains checks) (sym c.check-item.is) (Contains-get_or checks c.loop-check.check-index check c.loop-check-test.true))
          c.in_ok-place_of.ensures.asked c.loop-check.invariant.given;
    }
