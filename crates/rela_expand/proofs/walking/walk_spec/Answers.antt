use Rattle.std.proofs.Common.{◌≡◌, ℕ, List, Err, subst, arith}
use Rattle.rela_expand.specs.Bodies.{bodies_of}
use Rattle.rela_expand.specs.Forms.{shapes_of}
use Rattle.rela_expand.specs.Places.{Place}
use Rattle.rela_expand.specs.Walks.{seen_of}
use Rattle.rela_expand.specs.declared.names.Meaning.TheVariants as meaning
use Rattle.rela_expand.proofs.WalkItems.{spec_name_refused, spec_seen, spec_walked}
use Rattle.rela_expand.proofs.WalkNames.{Adds}
use Rattle.rela_expand.proofs.walking.walk_spec.Goals as goal

pub returns-in_err-look_new-clause-refused : goal.returns-in_err-look_new-clause-refused
returns-in_err-look_new-clause-refused c =
    let place : Place = record { network = c.args.locations.now; level = c.args.level } in
    let e = c.in_err-look_new.field-0.0 in
    let fault : c.from_residual.result ≡ Err e = grind arith in
    rw fault
    (λ taken are apart.
    spec_name_refused place (seen_of c.args.walk.now taken) c.args.name.now c.args.at c.args.body.now e (c.in_err-look_new.ensures.refused taken are))

pub returns-in_err-place-clause-refused : goal.returns-in_err-place-clause-refused
returns-in_err-place-clause-refused c =
    let place : Place = record { network = c.args.locations.now; level = c.args.level } in
    let e = c.in_err-place.field-0.0 in
    let fault : c.from_residual-in_err-place.result ≡ Err e = grind arith in
    rw fault
    (λ taken are apart.
    spec_seen place (seen_of c.args.walk.now taken) c.args.name.now c.args.at c.args.body.now (Err e) (c.in_ok-look_new.ensures.new taken are) (c.in_err-place.ensures.refused apart))

pub returns-clause-seen : goal.returns-clause-seen
returns-clause-seen c =
    let place : Place = record { network = c.args.locations.now; level = c.args.level } in
    let start = shapes_of c.args.walk.now.forms.forms.items in
    let new = shapes_of c.gather_spec.new.forms.forms.items in
    let old = c.args.walk.now.names in
    let next = c.add.new.self in
    let k = c.in_ok-place.place in
    let adds = subst (λ (n : List ℕ). Adds old next n (meaning.Spec k)) c.as_bytes.ensures.bytes c.in_ok-add.ensures in
    λ taken are.
    spec_walked place start new old taken c.args.walk.now.checks.items c.args.name.now c.args.at c.requires.known c.gather_spec.ensures.paths
    (bodies_of start c.args.walk.now.bodies.forms.items) (bodies_of new c.gather_spec.new.bodies.forms.items) c.requires.specs_known c.in_ok-place.ensures.grown
    k c.args.body.now c.in_ok-place.ensures.made next c.in_ok-look_new.ensures.none adds (c.in_ok-look_new.ensures.new taken are)
