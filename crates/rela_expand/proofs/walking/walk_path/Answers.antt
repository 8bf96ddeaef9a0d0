use Rattle.std.proofs.Common.{◌≡◌, ℕ, List, Err, subst, sym, arith}
use Rattle.rela_expand.specs.Bodies.{bodies_of}
use Rattle.rela_expand.specs.BodyGathers.{AreBodiesKnown}
use Rattle.rela_expand.specs.Forms.{shapes_of}
use Rattle.rela_expand.specs.Places.{Place}
use Rattle.rela_expand.specs.Shapes.{BodyShape}
use Rattle.rela_expand.specs.Walks.{seen_of}
use Rattle.rela_expand.specs.declared.names.Meaning.TheVariants as meaning
use Rattle.rela_expand.proofs.BodyGathering.{same_bodies, still_bodies}
use Rattle.rela_expand.proofs.PathGathering.{known_longer}
use Rattle.rela_expand.proofs.WalkItems.{path_name_refused, path_seen, path_walked}
use Rattle.rela_expand.proofs.WalkNames.{Adds, known_with_path, specs_known_with_path}
use Rattle.rela_expand.proofs.walking.walk_path.Goals as goal

pub returns-in_err-look_new-clause-refused : goal.returns-in_err-look_new-clause-refused
returns-in_err-look_new-clause-refused c =
    let place : Place = record { network = c.args.locations.now; level = c.args.level } in
    let e = c.in_err-look_new.field-0.0 in
    let fault : c.from_residual.result ≡ Err e = grind arith in
    rw fault
    (λ taken are apart.
    path_name_refused place (seen_of c.args.walk.now taken) c.args.name.now c.args.at c.args.body.now e (c.in_err-look_new.ensures.refused taken are))

pub returns-in_err-place-clause-refused : goal.returns-in_err-place-clause-refused
returns-in_err-place-clause-refused c =
    let place : Place = record { network = c.args.locations.now; level = c.args.level } in
    let e = c.in_err-place.field-0.0 in
    let fault : c.from_residual-in_err-place.result ≡ Err e = grind arith in
    rw fault
    (λ taken are apart.
    path_seen place (seen_of c.args.walk.now taken) c.args.name.now c.args.at c.args.body.now (Err e) (c.in_ok-look_new.ensures.new taken are) (c.in_err-place.ensures.refused apart))

pub returns-clause-walk : goal.returns-clause-walk
returns-clause-walk c =
    let start = shapes_of c.args.walk.now.forms.forms.items in
    let new = shapes_of c.gather.new.forms.forms.items in
    let bodies = c.args.walk.now.bodies.forms.items in
    let old = c.args.walk.now.names in
    let next = c.add.new.self in
    let name = c.args.name.now in
    let k = c.in_ok-place.place in
    let adds = subst (λ (n : List ℕ). Adds old next n (meaning.Path k)) c.as_bytes.ensures.bytes c.in_ok-add.ensures in
    record {
      known = known_with_path old next name k adds new (known_longer start new old c.gather.ensures.grown c.requires.known) c.in_ok-place.ensures.made.inside;
      specs_known = specs_known_with_path old next name k adds (bodies_of new bodies)
          (subst (λ (b : List BodyShape). AreBodiesKnown b old) (sym (same_bodies start new c.gather.ensures.grown bodies c.requires.are)) c.requires.specs_known);
      are = still_bodies start new c.gather.ensures.grown bodies c.requires.are;
      named = c.requires.named;
    }

pub returns-clause-seen : goal.returns-clause-seen
returns-clause-seen c =
    let place : Place = record { network = c.args.locations.now; level = c.args.level } in
    let start = shapes_of c.args.walk.now.forms.forms.items in
    let new = shapes_of c.gather.new.forms.forms.items in
    let old = c.args.walk.now.names in
    let next = c.add.new.self in
    let k = c.in_ok-place.place in
    let adds = subst (λ (n : List ℕ). Adds old next n (meaning.Path k)) c.as_bytes.ensures.bytes c.in_ok-add.ensures in
    λ taken are.
    path_walked place start new old taken c.args.walk.now.checks.items c.args.name.now c.args.at c.requires.known c.gather.ensures.grown
    c.args.walk.now.bodies.forms.items next k c.args.body.now c.requires.are c.in_ok-look_new.ensures.none adds (c.in_ok-look_new.ensures.new taken are) c.in_ok-place.ensures.made
