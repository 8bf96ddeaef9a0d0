use Rattle.std.proofs.Common.{◌≡◌, ℕ, List, map, Ok, Err, Result, subst, sym, ap, ◌∙◌, arith}
use Rattle.rela_lex.specs.declared.error.SpecError.{SpecError}
use Rattle.rela_expand.specs.Bodies.{bodies_of}
use Rattle.rela_translate.specs.Checked.{Checked}
use Rattle.rela_expand.specs.Expand.{Expanded, outcome_of}
use Rattle.rela_expand.specs.Forms.{shapes_of}
use Rattle.rela_expand.specs.Places.{Place}
use Rattle.rela_expand.specs.Walk.{Seen}
use Rattle.rela_expand.specs.Walks.{AreTaken, names_of, seen_of, seen_with}
use Rattle.rela_expand.specs.declared.names.Meaning.TheVariants as meaning
use Rattle.rela_expand.proofs.BodyGathering.{known_more}
use Rattle.rela_expand.proofs.PathGathering.{known_longer}
use Rattle.rela_expand.proofs.WalkItems.{check_full, check_name_refused, check_seen, check_too_large, check_walked, named_more}
use Rattle.rela_expand.proofs.WalkNames.{Adds}
use Rattle.rela_expand.proofs.walking.walk_check.Goals as goal

pub returns-in_err-look_new-clause-refused : goal.returns-in_err-look_new-clause-refused
returns-in_err-look_new-clause-refused c =
    let place : Place = record { network = c.args.locations.now; level = c.args.level } in
    let h = c.args.heading.now in
    let names = names_of (map outcome_of c.args.walk.now.checks.items) in
    let e = c.in_err-look_new.field-0.0 in
    let fault : c.from_residual.result ≡ Err e = grind arith in
    rw fault
    (λ taken apart.
    check_name_refused place (seen_of c.args.walk.now taken) h.name.now h.at c.args.body.now h.at_most h.when.now e (c.in_err-look_new.ensures.refused names c.requires.walk.named))

pub returns-in_err-look_for_room-clause-refused : goal.returns-in_err-look_for_room-clause-refused
returns-in_err-look_for_room-clause-refused c =
    let place : Place = record { network = c.args.locations.now; level = c.args.level } in
    let h = c.args.heading.now in
    let names = names_of (map outcome_of c.args.walk.now.checks.items) in
    let e = c.in_err-look_for_room.field-0.0 in
    let fault : c.from_residual-in_err-look_for_room.result ≡ Err e = grind arith in
    rw fault
    (λ taken apart.
    check_full place (seen_of c.args.walk.now taken) h.name.now h.at c.args.body.now h.at_most h.when.now e (c.in_ok-look_new.ensures.new names c.requires.walk.named)
    c.in_err-look_for_room.ensures.refused)

pub returns-in_err-place-clause-refused : goal.returns-in_err-place-clause-refused
returns-in_err-place-clause-refused c =
    let place : Place = record { network = c.args.locations.now; level = c.args.level } in
    let h = c.args.heading.now in
    let names = names_of (map outcome_of c.args.walk.now.checks.items) in
    let e = c.in_err-place.field-0.0 in
    let fault : c.from_residual-in_err-place.result ≡ Err e = grind arith in
    rw fault
    (λ taken apart.
    check_seen place (seen_of c.args.walk.now taken) h.name.now h.at c.args.body.now h.at_most h.when.now (Err e) (c.in_ok-look_new.ensures.new names c.requires.walk.named)
    c.in_ok-look_for_room.ensures.room (c.in_err-place.ensures.refused apart))

pub returns-in_err-check-clause-refused : goal.returns-in_err-check-clause-refused
returns-in_err-check-clause-refused c =
    let place : Place = record { network = c.args.locations.now; level = c.args.level } in
    let h = c.args.heading.now in
    let checks = c.args.walk.now.checks.items in
    let start = shapes_of c.args.walk.now.forms.forms.items in
    let new = shapes_of c.gather_spec.new.forms.forms.items in
    let e = c.in_err-check.field-0.0 in
    let fault : c.from_residual-in_err-check.result ≡ Err e = grind arith in
    rw fault
    (λ taken apart.
    check_too_large place start new c.args.walk.now.names taken checks h.name.now h.at c.requires.walk.known c.gather_spec.ensures.paths
    (bodies_of start c.args.walk.now.bodies.forms.items) (bodies_of new c.gather_spec.new.bodies.forms.items) c.requires.walk.specs_known c.in_ok-place.ensures.grown
    c.in_ok-place.place c.args.body.now c.in_ok-place.ensures.made h.at_most h.when.now
    (c.in_ok-look_new.ensures.new (names_of (map outcome_of checks)) c.requires.walk.named) c.in_ok-look_for_room.ensures.room e (c.in_err-check.ensures.refused apart))

pub returns-clause-walk : goal.returns-clause-walk
returns-clause-walk c =
    let checks = c.args.walk.now.checks.items in
    let check = c.in_ok-check.check in
    let start = shapes_of c.args.walk.now.forms.forms.items in
    let new = shapes_of c.gather_spec.new.forms.forms.items in
    let name = c.args.heading.now.name.now in
    let adds = subst (λ (n : List ℕ). Adds c.args.walk.now.check_names c.add.new.self n (meaning.Spec c.in_ok-place.place)) c.as_bytes.ensures.bytes c.in_ok-add.ensures in
    record {
      known = known_longer start new c.args.walk.now.names c.gather_spec.ensures.paths c.requires.walk.known;
      specs_known = known_more (bodies_of start c.args.walk.now.bodies.forms.items) (bodies_of new c.gather_spec.new.bodies.forms.items) c.args.walk.now.names
          c.in_ok-place.ensures.grown c.requires.walk.specs_known;
      are = c.in_ok-place.ensures.are;
      named =
          subst (λ (all : List Checked). AreTaken c.add.new.self (names_of (map outcome_of all))) (sym c.in_ok-push.ensures.items)
          (named_more c.args.walk.now.check_names c.add.new.self checks check c.in_ok-place.place name adds (ap (λ (x : Expanded). x.name) c.in_ok-check.ensures.made.2)
          c.requires.walk.named);
    }

pub returns-clause-seen : goal.returns-clause-seen
returns-clause-seen c =
    let place : Place = record { network = c.args.locations.now; level = c.args.level } in
    let h = c.args.heading.now in
    let checks = c.args.walk.now.checks.items in
    let start = shapes_of c.args.walk.now.forms.forms.items in
    let new = shapes_of c.gather_spec.new.forms.forms.items in
    let bodies = bodies_of new c.gather_spec.new.bodies.forms.items in
    λ taken.
    check_walked place start new c.args.walk.now.names taken checks h.name.now h.at c.requires.walk.known c.gather_spec.ensures.paths
    (bodies_of start c.args.walk.now.bodies.forms.items) bodies c.requires.walk.specs_known c.in_ok-place.ensures.grown
    c.in_ok-place.place c.args.body.now c.in_ok-place.ensures.made h.at_most h.when.now
    (c.in_ok-look_new.ensures.new (names_of (map outcome_of checks)) c.requires.walk.named) c.in_ok-look_for_room.ensures.room c.in_ok-check.check c.in_ok-check.ensures.made
    ∙ ap (λ (all : List Checked). let r : Result Seen SpecError = Ok (seen_with new bodies c.args.walk.now.names taken (map outcome_of all)) in r) (sym c.in_ok-push.ensures.items)
