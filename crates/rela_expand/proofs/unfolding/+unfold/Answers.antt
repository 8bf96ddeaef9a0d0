use Rattle.std.proofs.Common.{◌≡◌, ◌+◌, true, [], Err, arith, ap, ◌∙◌}
use Rattle.rela_expand.specs.Forms.{shape_at, shapes_of}
use Rattle.rela_expand.specs.Shapes.{nodes_of_shape}
use Rattle.rela_expand.specs.Tables.{numbering_of}
use Rattle.rela_expand.specs.Places.{Place}
use Rattle.rela_expand.proofs.PathUnfolding.{one_numbered, one_large, join_large, nodes_joined, room_left, class_large, not_large, star_large, behind_large, not_numbered, star_numbered, join_numbered}
use Rattle.rela_expand.proofs.unfolding.+unfold.Goals as goal

pub returns-in_err-class-in-One-clause-too_large : goal.returns-in_err-class-in-One-clause-too_large
returns-in_err-class-in-One-clause-too_large t c =
    let place : Place = record { network = c.args.locations.now; level = c.args.level } in
    let fault : c.from_residual-in_err-class-in-One.result ≡ Err c.in_err-class-in-One.field-0.0 = grind arith in
    rw fault
    (λ is.
    one_large place (shape_at (shapes_of c.args.forms.now.forms.items) c.args.place) c.from_ref-members.result.now c.in-One.member.now (numbering_of c.args.numbers.now)
    c.in-One.ensures.shape c.from_ref-members.ensures.value (c.in_err-class-in-One.ensures.too_large is))

pub returns-in_err-a-in-Join-clause-too_large : goal.returns-in_err-a-in-Join-clause-too_large
returns-in_err-a-in-Join-clause-too_large t c =
    let place : Place = record { network = c.args.locations.now; level = c.args.level } in
    let shapes = shapes_of c.args.forms.now.forms.items in
    let fault : c.from_residual-in_err-a-in-Join.result ≡ Err c.in_err-a-in-Join.field-0.0 = grind arith in
    rw fault
    (λ is.
    join_large place c.in-Join.by (shape_at shapes c.args.place) (shape_at shapes c.in-Join.a) (shape_at shapes c.in-Join.b) (numbering_of c.args.numbers.now)
    c.in-Join.ensures.shape (c.in_err-a-in-Join.ensures.too_large is))

pub unfold-requires-in-Join : goal.unfold-requires-in-Join
unfold-requires-in-Join t c =
    let place : Place = record { network = c.args.locations.now; level = c.args.level } in
    let shapes = shapes_of c.args.forms.now.forms.items in
    let a = shape_at shapes c.in-Join.a in
    let b = shape_at shapes c.in-Join.b in
    let whole : nodes_of_shape (shape_at shapes c.args.place) ≡ nodes_of_shape a + nodes_of_shape b + 1 = ap nodes_of_shape c.in-Join.ensures.shape ∙ nodes_joined c.in-Join.by a b in
    let left = room_left place a c.args.numbers.now c.unfold.new.numbers c.in_ok-a-in-Join.a c.in_ok-a-in-Join.ensures.unfolded in
    let below = c.in-Join.ensures.below in
    let room = c.requires.room in
    (omega arith, (omega arith, (omega arith, (c.in_ok-a-in-Join.ensures.counted, (c.in_ok-a-in-Join.ensures.written, c.in_ok-a-in-Join.ensures.places)))))

pub returns-in_ok-class-in-One-clause-unfolded : goal.returns-in_ok-class-in-One-clause-unfolded
returns-in_ok-class-in-One-clause-unfolded t c =
    let place : Place = record { network = c.args.locations.now; level = c.args.level } in
    one_numbered place (shape_at (shapes_of c.args.forms.now.forms.items) c.args.place) c.from_ref-members.result.now c.in-One.member.now (numbering_of c.args.numbers.now)
    (numbering_of c.class-in-One.new.numbers) c.in_ok-class-in-One.field-0 c.in-One.ensures.shape c.from_ref-members.ensures.value c.in_ok-class-in-One.ensures.numbered

pub returns-in_err-class-in-Any-clause-too_large : goal.returns-in_err-class-in-Any-clause-too_large
returns-in_err-class-in-Any-clause-too_large t c =
    let place : Place = record { network = c.args.locations.now; level = c.args.level } in
    let shapes = shapes_of c.args.forms.now.forms.items in
    let fault : c.from_residual.result ≡ Err c.in_err-class-in-Any.field-0.0 = grind arith in
    rw fault
    (λ is. class_large place (shape_at shapes c.args.place) true [] (numbering_of c.args.numbers.now) (c.in-Any.ensures.shape) (c.in_err-class-in-Any.ensures.too_large is))

pub returns-in_err-number-in-Class-clause-too_large : goal.returns-in_err-number-in-Class-clause-too_large
returns-in_err-number-in-Class-clause-too_large t c =
    let place : Place = record { network = c.args.locations.now; level = c.args.level } in
    let shapes = shapes_of c.args.forms.now.forms.items in
    let fault : c.from_residual-in_err-number-in-Class.result ≡ Err c.in_err-number-in-Class.field-0.0 = grind arith in
    rw fault
    (λ is. class_large place (shape_at shapes c.args.place) c.in-Class.negated c.in-Class.members.now (numbering_of c.args.numbers.now) (c.in-Class.ensures.shape) (c.in_err-number-in-Class.ensures.too_large is))

pub returns-in_err-b-in-Join-clause-too_large : goal.returns-in_err-b-in-Join-clause-too_large
returns-in_err-b-in-Join-clause-too_large t c =
    let place : Place = record { network = c.args.locations.now; level = c.args.level } in
    let shapes = shapes_of c.args.forms.now.forms.items in
    let fault : c.from_residual-in_err-b-in-Join.result ≡ Err c.in_err-b-in-Join.field-0.0 = grind arith in
    rw fault
    (λ is. behind_large place c.in-Join.by (shape_at shapes c.args.place) (shape_at shapes c.in-Join.a) (shape_at shapes c.in-Join.b) (numbering_of c.args.numbers.now) (numbering_of c.unfold.new.numbers) c.in_ok-a-in-Join.a
    c.in-Join.ensures.shape c.in_ok-a-in-Join.ensures.unfolded (c.in_err-b-in-Join.ensures.too_large is))

pub returns-in_err-part-in-Not-clause-too_large : goal.returns-in_err-part-in-Not-clause-too_large
returns-in_err-part-in-Not-clause-too_large t c =
    let place : Place = record { network = c.args.locations.now; level = c.args.level } in
    let shapes = shapes_of c.args.forms.now.forms.items in
    let fault : c.from_residual-in_err-part-in-Not.result ≡ Err c.in_err-part-in-Not.field-0.0 = grind arith in
    rw fault
    (λ is. not_large place (shape_at shapes c.args.place) (shape_at shapes c.in-Not.part) (numbering_of c.args.numbers.now) c.in-Not.ensures.shape (c.in_err-part-in-Not.ensures.too_large is))

pub returns-in_ok-new-in-Not-clause-unfolded : goal.returns-in_ok-new-in-Not-clause-unfolded
returns-in_ok-new-in-Not-clause-unfolded t c =
    let place : Place = record { network = c.args.locations.now; level = c.args.level } in
    let shapes = shapes_of c.args.forms.now.forms.items in
    not_numbered place (shape_at shapes c.args.place) (shape_at shapes c.in-Not.part) (numbering_of c.args.numbers.now) (numbering_of c.unfold-in-Not.new.numbers) c.in_ok-part-in-Not.part c.in_ok-new-in-Not.field-0
    c.in-Not.ensures.shape c.in_ok-new-in-Not.ensures c.in_ok-part-in-Not.ensures.unfolded

pub returns-in_err-part-in-Star-clause-too_large : goal.returns-in_err-part-in-Star-clause-too_large
returns-in_err-part-in-Star-clause-too_large t c =
    let place : Place = record { network = c.args.locations.now; level = c.args.level } in
    let shapes = shapes_of c.args.forms.now.forms.items in
    let fault : c.from_residual-in_err-part-in-Star.result ≡ Err c.in_err-part-in-Star.field-0.0 = grind arith in
    rw fault
    (λ is. star_large place (shape_at shapes c.args.place) (shape_at shapes c.in-Star.part) (numbering_of c.args.numbers.now) c.in-Star.ensures.shape (c.in_err-part-in-Star.ensures.too_large is))

pub returns-in_ok-new-in-Star-clause-unfolded : goal.returns-in_ok-new-in-Star-clause-unfolded
returns-in_ok-new-in-Star-clause-unfolded t c =
    let place : Place = record { network = c.args.locations.now; level = c.args.level } in
    let shapes = shapes_of c.args.forms.now.forms.items in
    star_numbered place (shape_at shapes c.args.place) (shape_at shapes c.in-Star.part) (numbering_of c.args.numbers.now) (numbering_of c.unfold-in-Star.new.numbers) c.in_ok-part-in-Star.part c.in_ok-new-in-Star.field-0
    c.in-Star.ensures.shape c.in_ok-new-in-Star.ensures c.in_ok-part-in-Star.ensures.unfolded

pub returns-in_ok-b-in-Join-2-clause-unfolded : goal.returns-in_ok-b-in-Join-2-clause-unfolded
returns-in_ok-b-in-Join-2-clause-unfolded t c =
    let place : Place = record { network = c.args.locations.now; level = c.args.level } in
    let shapes = shapes_of c.args.forms.now.forms.items in
    join_numbered place c.in-Join.by (shape_at shapes c.args.place) (shape_at shapes c.in-Join.a) (shape_at shapes c.in-Join.b) (numbering_of c.args.numbers.now) (numbering_of c.unfold.new.numbers) (numbering_of c.unfold-in-Join.new.numbers)
    c.in_ok-a-in-Join.a c.in_ok-b-in-Join.b c.in_ok-a-in-Join-2.a c.in_ok-b-in-Join-2.b c.join.result c.in-Join.ensures.shape c.in_ok-a-in-Join.ensures.unfolded c.in_ok-b-in-Join.ensures.unfolded
    c.in_ok-a-in-Join-2.ensures c.in_ok-b-in-Join-2.ensures c.join.ensures
