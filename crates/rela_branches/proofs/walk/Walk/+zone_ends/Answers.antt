use Rattle.std.proofs.Common.{rules, ◌+◌, ◌∙◌, ℕ, List, length, ap, refl}
use Rattle.std.specs.Prelude.{Vec}
use Rattle.rela_rir.specs.Words.{Concatenation}
use Rattle.rela_translate.specs.Zones.{Either, Paths, Zone, unit_meaning}
use Rattle.rela_translate.specs.declared.body.Core.TheViews.{the_lemmas}
use Rattle.rela_branches.specs.Places.{AreJoined, Each, EachOfTwo}
use Rattle.rela_branches.specs.Walks.{IsLed}
use Rattle.rela_branches.proofs.Ends.{alt_ends, by_words, ends_below, if_ok, seq_ends}
use Rattle.rela_branches.proofs.Forms.{else_is, then_is, zone_unit}
use Rattle.rela_branches.proofs.walk.Walk.+zone_ends.Goals as goal

pub zone_ends-requires-in-Then : goal.zone_ends-requires-in-Then
zone_ends-requires-in-Then t c =
    (search (rules, the_lemmas), ends_below c.args.self.now.word.now (Zone c.args.self.now.classes.now c.args.self.now.locations c.get.result.now) c.args.from.now c.in_ok-middle-in-Then.middle.items c.as_slice.result.now (length c.args.self.now.word.now + 1) c.in_ok-middle-in-Then.ensures c.as_slice.ensures.value refl)

pub returns-in_ok-middle-in-Then : goal.returns-in_ok-middle-in-Then
returns-in_ok-middle-in-Then t c =
    if_ok (λ (to : Vec (List ℕ) _). Each (IsLed c.args.self.now.word.now (Zone c.args.self.now.classes.now c.args.self.now.locations c.get-in-Then.result.now)) c.as_slice.result.now to.items)
    (λ (to : Vec (List ℕ) _). Each (IsLed c.args.self.now.word.now (Zone c.args.self.now.classes.now c.args.self.now.locations c.args.body.now)) c.args.from.now to.items) c.zone_ends-in-Then.result
    (λ to made. by_words c.args.self.now.word.now (Concatenation (Zone c.args.self.now.classes.now c.args.self.now.locations c.get.result.now) (Zone c.args.self.now.classes.now c.args.self.now.locations c.get-in-Then.result.now)) (Zone c.args.self.now.classes.now c.args.self.now.locations c.args.body.now) c.args.from.now to.items (then_is c.args.self.now.classes.now c.args.self.now.locations c.args.body.now c.in-Then.a c.in-Then.b c.get.result.now c.get-in-Then.result.now c.in-Then.is c.get.ensures c.get-in-Then.ensures)
    (seq_ends c.args.self.now.word.now (Zone c.args.self.now.classes.now c.args.self.now.locations c.get.result.now) (Zone c.args.self.now.classes.now c.args.self.now.locations c.get-in-Then.result.now) c.args.from.now c.in_ok-middle-in-Then.middle.items c.as_slice.result.now to.items c.in_ok-middle-in-Then.ensures c.as_slice.ensures.value made))
    c.zone_ends-in-Then.ensures

pub joined_each-requires-clause-first : goal.joined_each-requires-clause-first
joined_each-requires-clause-first t c =
    ends_below c.args.self.now.word.now (Zone c.args.self.now.classes.now c.args.self.now.locations c.get-in-Else.result.now) c.args.from.now c.in_ok-first-in-Else.first.items c.as_slice-in-Else.result.now c.bound.result c.in_ok-first-in-Else.ensures c.as_slice-in-Else.ensures.value c.bound.ensures

pub joined_each-requires-clause-second : goal.joined_each-requires-clause-second
joined_each-requires-clause-second t c =
    ends_below c.args.self.now.word.now (Zone c.args.self.now.classes.now c.args.self.now.locations c.get-in-Else-2.result.now) c.args.from.now c.in_ok-second-in-Else.second.items c.as_slice-in-Else-2.result.now c.bound.result c.in_ok-second-in-Else.ensures c.as_slice-in-Else-2.ensures.value c.bound.ensures

pub returns-in_ok-second-in-Else : goal.returns-in_ok-second-in-Else
returns-in_ok-second-in-Else t c =
    if_ok (λ (to : Vec (List ℕ) _). EachOfTwo (AreJoined c.bound.result) c.as_slice-in-Else.result.now c.as_slice-in-Else-2.result.now to.items)
    (λ (to : Vec (List ℕ) _). Each (IsLed c.args.self.now.word.now (Zone c.args.self.now.classes.now c.args.self.now.locations c.args.body.now)) c.args.from.now to.items) c.joined_each.result
    (λ to made. by_words c.args.self.now.word.now (Either (Zone c.args.self.now.classes.now c.args.self.now.locations c.get-in-Else.result.now) (Zone c.args.self.now.classes.now c.args.self.now.locations c.get-in-Else-2.result.now)) (Zone c.args.self.now.classes.now c.args.self.now.locations c.args.body.now) c.args.from.now to.items (else_is c.args.self.now.classes.now c.args.self.now.locations c.args.body.now c.in-Else.a c.in-Else.b c.get-in-Else.result.now c.get-in-Else-2.result.now c.in-Else.is c.get-in-Else.ensures c.get-in-Else-2.ensures)
    (alt_ends c.args.self.now.word.now (Zone c.args.self.now.classes.now c.args.self.now.locations c.get-in-Else.result.now) (Zone c.args.self.now.classes.now c.args.self.now.locations c.get-in-Else-2.result.now) c.args.from.now c.in_ok-first-in-Else.first.items c.in_ok-second-in-Else.second.items c.as_slice-in-Else.result.now c.as_slice-in-Else-2.result.now to.items c.bound.result c.in_ok-first-in-Else.ensures c.in_ok-second-in-Else.ensures c.as_slice-in-Else.ensures.value c.as_slice-in-Else-2.ensures.value c.bound.ensures made))
    c.joined_each.ensures

pub returns-in-Unit : goal.returns-in-Unit
returns-in-Unit t c =
    if_ok (λ (to : Vec (List ℕ) _). Each (IsLed c.args.self.now.word.now (unit_meaning c.args.self.now.classes.now c.args.self.now.locations (Paths c.args.self.now.classes.now c.args.self.now.locations c.in-Unit.zone) c.in-Unit.modifier).zone) c.args.from.now to.items)
    (λ (to : Vec (List ℕ) _). Each (IsLed c.args.self.now.word.now (Zone c.args.self.now.classes.now c.args.self.now.locations c.args.body.now)) c.args.from.now to.items) c.unit_ends.result
    (λ to made. by_words c.args.self.now.word.now (unit_meaning c.args.self.now.classes.now c.args.self.now.locations (Paths c.args.self.now.classes.now c.args.self.now.locations c.in-Unit.zone) c.in-Unit.modifier).zone (Zone c.args.self.now.classes.now c.args.self.now.locations c.args.body.now) c.args.from.now to.items (ap (Zone c.args.self.now.classes.now c.args.self.now.locations) c.in-Unit.is ∙ zone_unit c.args.self.now.classes.now c.args.self.now.locations c.in-Unit.zone c.in-Unit.modifier) made)
    c.unit_ends.ensures
