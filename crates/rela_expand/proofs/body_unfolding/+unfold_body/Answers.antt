use Rattle.std.proofs.Common.{◌≡◌, ◌+◌, Err, ap, ◌∙◌, arith}
use Rattle.rela_expand.specs.Bodies.{body_at, body_in, bodies_of, body_joined, modifier_at}
use Rattle.rela_expand.specs.Forms.{shape_at, shapes_of}
use Rattle.rela_expand.specs.Measures.{weight_of, weight_of_modifier}
use Rattle.rela_expand.specs.Places.{Place}
use Rattle.rela_expand.specs.Shapes.{Unit as Unit', nodes_of_shape}
use Rattle.rela_expand.specs.Tables.{numbering_of}
use Rattle.rela_expand.proofs.BodyUnfolding.{body_behind_large, body_join_large, body_join_numbered, body_room_left, kept_markers, some_nodes, unit_behind_large, unit_large, unit_numbered, weight_joined}
use Rattle.rela_expand.proofs.PathUnfolding.{room_left}
use Rattle.rela_expand.proofs.body_unfolding.+unfold_body.Goals as goal

pub returns-in_err-zone-in-Unit-clause-too_large : goal.returns-in_err-zone-in-Unit-clause-too_large
returns-in_err-zone-in-Unit-clause-too_large t c =
    let place : Place = record { network = c.args.locations.now; level = c.args.level } in
    let shapes = shapes_of c.args.forms.now.forms.items in
    let bodies = bodies_of shapes c.args.bodies.now.forms.items in
    let is : body_at bodies c.args.place ≡ Unit' (shape_at shapes c.in-Unit.zone) (modifier_at shapes c.in-Unit.modifier) =
    c.get.ensures.shape shapes c.requires.are ∙ ap (body_in shapes bodies) c.in-Unit.is in
    let fault : c.from_residual.result ≡ Err c.in_err-zone-in-Unit.field-0.0 = grind arith in
    rw fault
    (λ large.
    unit_large place (body_at bodies c.args.place) (shape_at shapes c.in-Unit.zone) (modifier_at shapes c.in-Unit.modifier) (numbering_of c.args.numbers.now) is
    (c.in_err-zone-in-Unit.ensures.too_large large))

pub unfold_modifier-requires-clause-room : goal.unfold_modifier-requires-clause-room
unfold_modifier-requires-clause-room t c =
    let place : Place = record { network = c.args.locations.now; level = c.args.level } in
    let shapes = shapes_of c.args.forms.now.forms.items in
    let bodies = bodies_of shapes c.args.bodies.now.forms.items in
    let weight : weight_of (body_at bodies c.args.place) ≡ nodes_of_shape (shape_at shapes c.in-Unit.zone) + weight_of_modifier (modifier_at shapes c.in-Unit.modifier) =
    ap weight_of (c.get.ensures.shape shapes c.requires.are ∙ ap (body_in shapes bodies) c.in-Unit.is) in
    let left = room_left place (shape_at shapes c.in-Unit.zone) c.args.numbers.now c.unfold.new.numbers c.in_ok-zone-in-Unit.zone c.in_ok-zone-in-Unit.ensures.unfolded in
    let room = c.requires.room in
    omega arith

pub unfold_modifier-requires-clause-few : goal.unfold_modifier-requires-clause-few
unfold_modifier-requires-clause-few t c =
    let place : Place = record { network = c.args.locations.now; level = c.args.level } in
    let shapes = shapes_of c.args.forms.now.forms.items in
    let bodies = bodies_of shapes c.args.bodies.now.forms.items in
    let weight : weight_of (body_at bodies c.args.place) ≡ nodes_of_shape (shape_at shapes c.in-Unit.zone) + weight_of_modifier (modifier_at shapes c.in-Unit.modifier) =
    ap weight_of (c.get.ensures.shape shapes c.requires.are ∙ ap (body_in shapes bodies) c.in-Unit.is) in
    let some = some_nodes (shape_at shapes c.in-Unit.zone) in
    let same = kept_markers place (shape_at shapes c.in-Unit.zone) c.args.numbers.now c.unfold.new.numbers c.in_ok-zone-in-Unit.zone c.in_ok-zone-in-Unit.ensures.unfolded in
    let few = c.requires.few in
    omega arith

pub returns-in_err-first-in-Join-clause-too_large : goal.returns-in_err-first-in-Join-clause-too_large
returns-in_err-first-in-Join-clause-too_large t c =
    let place : Place = record { network = c.args.locations.now; level = c.args.level } in
    let shapes = shapes_of c.args.forms.now.forms.items in
    let bodies = bodies_of shapes c.args.bodies.now.forms.items in
    let is : body_at bodies c.args.place ≡ body_joined c.in-Join.by (body_at bodies c.in-Join.a) (body_at bodies c.in-Join.b) =
    c.get.ensures.shape shapes c.requires.are ∙ ap (body_in shapes bodies) c.in-Join.is in
    let fault : c.from_residual-in_err-first-in-Join.result ≡ Err c.in_err-first-in-Join.field-0.0 = grind arith in
    rw fault
    (λ large.
    body_join_large place c.in-Join.by (body_at bodies c.args.place) (body_at bodies c.in-Join.a) (body_at bodies c.in-Join.b) (numbering_of c.args.numbers.now) is
    (c.in_err-first-in-Join.ensures.too_large large))

pub unfold_body-requires-in-Join : goal.unfold_body-requires-in-Join
unfold_body-requires-in-Join t c =
    let place : Place = record { network = c.args.locations.now; level = c.args.level } in
    let shapes = shapes_of c.args.forms.now.forms.items in
    let bodies = bodies_of shapes c.args.bodies.now.forms.items in
    let weight : weight_of (body_at bodies c.args.place) ≡ weight_of (body_at bodies c.in-Join.a) + weight_of (body_at bodies c.in-Join.b) =
    ap weight_of (c.get.ensures.shape shapes c.requires.are ∙ ap (body_in shapes bodies) c.in-Join.is)
    ∙ weight_joined c.in-Join.by (body_at bodies c.in-Join.a) (body_at bodies c.in-Join.b) in
    let left = body_room_left place (body_at bodies c.in-Join.a) c.args.numbers.now c.unfold_body.new.numbers c.in_ok-first-in-Join.first c.in_ok-first-in-Join.ensures.unfolded in
    let below = rw c.in-Join.is at (c.get.ensures.below shapes c.requires.are) in
    let inside = c.requires.inside in
    let room = c.requires.room in
    let few = c.requires.few in
    (omega arith, (omega arith, (c.requires.are, (omega arith, (omega arith, (c.in_ok-first-in-Join.ensures.counted, (c.in_ok-first-in-Join.ensures.written, c.in_ok-first-in-Join.ensures.places)))))))

pub returns-in_err-modifier-in-Unit-clause-too_large : goal.returns-in_err-modifier-in-Unit-clause-too_large
returns-in_err-modifier-in-Unit-clause-too_large t c =
    let place : Place = record { network = c.args.locations.now; level = c.args.level } in
    let shapes = shapes_of c.args.forms.now.forms.items in
    let bodies = bodies_of shapes c.args.bodies.now.forms.items in
    let is : body_at bodies c.args.place ≡ Unit' (shape_at shapes c.in-Unit.zone) (modifier_at shapes c.in-Unit.modifier) =
    c.get.ensures.shape shapes c.requires.are ∙ ap (body_in shapes bodies) c.in-Unit.is in
    let fault : c.from_residual-in_err-modifier-in-Unit.result ≡ Err c.in_err-modifier-in-Unit.field-0.0 = grind arith in
    rw fault
    (λ large.
    unit_behind_large place (body_at bodies c.args.place) (shape_at shapes c.in-Unit.zone) (modifier_at shapes c.in-Unit.modifier) (numbering_of c.args.numbers.now) (numbering_of c.unfold.new.numbers)
    c.in_ok-zone-in-Unit.zone is c.in_ok-zone-in-Unit.ensures.unfolded (c.in_err-modifier-in-Unit.ensures.too_large large))

pub returns-in_err-second-in-Join-clause-too_large : goal.returns-in_err-second-in-Join-clause-too_large
returns-in_err-second-in-Join-clause-too_large t c =
    let place : Place = record { network = c.args.locations.now; level = c.args.level } in
    let shapes = shapes_of c.args.forms.now.forms.items in
    let bodies = bodies_of shapes c.args.bodies.now.forms.items in
    let is : body_at bodies c.args.place ≡ body_joined c.in-Join.by (body_at bodies c.in-Join.a) (body_at bodies c.in-Join.b) =
    c.get.ensures.shape shapes c.requires.are ∙ ap (body_in shapes bodies) c.in-Join.is in
    let fault : c.from_residual-in_err-second-in-Join.result ≡ Err c.in_err-second-in-Join.field-0.0 = grind arith in
    rw fault
    (λ large.
    body_behind_large place c.in-Join.by (body_at bodies c.args.place) (body_at bodies c.in-Join.a) (body_at bodies c.in-Join.b) (numbering_of c.args.numbers.now) (numbering_of c.unfold_body.new.numbers)
    c.in_ok-first-in-Join.first is c.in_ok-first-in-Join.ensures.unfolded (c.in_err-second-in-Join.ensures.too_large large))

pub returns-in_ok-modifier-in-Unit-clause-unfolded : goal.returns-in_ok-modifier-in-Unit-clause-unfolded
returns-in_ok-modifier-in-Unit-clause-unfolded t c =
    let place : Place = record { network = c.args.locations.now; level = c.args.level } in
    let shapes = shapes_of c.args.forms.now.forms.items in
    let bodies = bodies_of shapes c.args.bodies.now.forms.items in
    let is : body_at bodies c.args.place ≡ Unit' (shape_at shapes c.in-Unit.zone) (modifier_at shapes c.in-Unit.modifier) =
    c.get.ensures.shape shapes c.requires.are ∙ ap (body_in shapes bodies) c.in-Unit.is in
    unit_numbered place (body_at bodies c.args.place) (shape_at shapes c.in-Unit.zone) (modifier_at shapes c.in-Unit.modifier) (numbering_of c.args.numbers.now) (numbering_of c.unfold.new.numbers) (numbering_of c.unfold_modifier.new.numbers)
    c.in_ok-zone-in-Unit.zone c.in_ok-modifier-in-Unit.modifier is c.in_ok-zone-in-Unit.ensures.unfolded c.in_ok-modifier-in-Unit.ensures.unfolded

pub returns-in_ok-second-in-Join-2-clause-unfolded : goal.returns-in_ok-second-in-Join-2-clause-unfolded
returns-in_ok-second-in-Join-2-clause-unfolded t c =
    let place : Place = record { network = c.args.locations.now; level = c.args.level } in
    let shapes = shapes_of c.args.forms.now.forms.items in
    let bodies = bodies_of shapes c.args.bodies.now.forms.items in
    let is : body_at bodies c.args.place ≡ body_joined c.in-Join.by (body_at bodies c.in-Join.a) (body_at bodies c.in-Join.b) =
    c.get.ensures.shape shapes c.requires.are ∙ ap (body_in shapes bodies) c.in-Join.is in
    body_join_numbered place c.in-Join.by (body_at bodies c.args.place) (body_at bodies c.in-Join.a) (body_at bodies c.in-Join.b) (numbering_of c.args.numbers.now) (numbering_of c.unfold_body.new.numbers) (numbering_of c.unfold_body-in-Join.new.numbers)
    c.in_ok-first-in-Join.first c.in_ok-second-in-Join.second c.in_ok-first-in-Join-2.first c.in_ok-second-in-Join-2.second c.join.result is
    c.in_ok-first-in-Join.ensures.unfolded c.in_ok-second-in-Join.ensures.unfolded c.in_ok-first-in-Join-2.ensures c.in_ok-second-in-Join-2.ensures c.join.ensures
