use Rattle.std.proofs.Common.{◌≡◌, ◌≤◌, Err, map, ap, sym, subst, ◌∙◌, arith, inr}
use Rattle.rela_flows.specs.Selects.{depth}
use Rattle.rela_flows.specs.declared.predicate.Predicate.{Predicate}
use Rattle.rela_expand.specs.Bodies.{bodies_of, body_at, size_of_body}
use Rattle.rela_translate.specs.Checked.{Checked}
use Rattle.rela_expand.specs.Expand.{listing_of}
use Rattle.rela_expand.specs.Forms.{shapes_of}
use Rattle.rela_expand.specs.Measures.{body_measures}
use Rattle.rela_expand.specs.Places.{Place}
use Rattle.rela_expand.proofs.CheckMaking.{check_is_made, is_check, is_light, is_refused, is_too_large, unfit_refused}
use Rattle.rela_expand.proofs.making.made.Goals as goal

pub returns-in_err-fit-clause-refused : goal.returns-in_err-fit-clause-refused
returns-in_err-fit-clause-refused c =
    let place : Place = record { network = c.args.locations.now; level = c.args.level } in
    let paths = shapes_of c.args.forms.now.forms.items in
    let s = body_at (bodies_of paths c.args.bodies.now.forms.items) c.args.place in
    let size : c.size.result ≡ size_of_body s = c.size.ensures paths c.requires.are in
    let e = c.in_err-fit.field-0.0 in
    let fault : c.from_residual.result ≡ Err e = grind arith in
    rw fault
    (λ apart.
    is_refused c.bodies_are_as_large_as_their_shapes.ensures place s c.args.heading.now.at e c.in_err-fit.ensures.refused
    (c.in_err-fit.ensures.too_deep (body_measures s) size) (c.in_err-fit.ensures.too_large (body_measures s) size))

pub unfolded-requires-clause-light : goal.unfolded-requires-clause-light
unfolded-requires-clause-light c =
    let place : Place = record { network = c.args.locations.now; level = c.args.level } in
    let paths = shapes_of c.args.forms.now.forms.items in
    let s = body_at (bodies_of paths c.args.bodies.now.forms.items) c.args.place in
    is_light c.bodies_are_as_large_as_their_shapes.ensures place s (c.in_ok-fit.ensures.few (body_measures s) (c.size.ensures paths c.requires.are))

pub returns-in-Err-clause-refused : goal.returns-in-Err-clause-refused
returns-in-Err-clause-refused c =
    let place : Place = record { network = c.args.locations.now; level = c.args.level } in
    let paths = shapes_of c.args.forms.now.forms.items in
    let s = body_at (bodies_of paths c.args.bodies.now.forms.items) c.args.place in
    let size : c.size.result ≡ size_of_body s = c.size.ensures paths c.requires.are in
    unfit_refused c.args.heading.now.at c.in-Err.unfit _
    (λ is. is_too_large c.bodies_are_as_large_as_their_shapes.ensures place s c.args.heading.now.at
    (c.in_ok-fit.ensures.shallow_before (body_measures s) size) (c.in_ok-fit.ensures.shallow_after (body_measures s) size)
    (inr (c.in-Err.ensures.too_large is)))
    c.at.result c.at.ensures

pub new-requires : goal.new-requires
new-requires c =
    let place : Place = record { network = c.args.locations.now; level = c.args.level } in
    let paths = shapes_of c.args.forms.now.forms.items in
    let s = body_at (bodies_of paths c.args.bodies.now.forms.items) c.args.place in
    let size : c.size.result ≡ size_of_body s = c.size.ensures paths c.requires.are in
    is_check c.bodies_are_as_large_as_their_shapes.ensures place s _ c.in-Ok.ensures.body c.in-Ok.ensures.classes
    (subst (λ (p : Predicate). depth p ≤ 1000) (sym c.in_ok-name.ensures.when) c.requires.low)
    (c.in_ok-fit.ensures.shallow_before (body_measures s) size) (c.in_ok-fit.ensures.shallow_after (body_measures s) size)
    (c.in_ok-fit.ensures.few (body_measures s) size)

pub returns-in-Ok-clause-made : goal.returns-in-Ok-clause-made
returns-in-Ok-clause-made c =
    let place : Place = record { network = c.args.locations.now; level = c.args.level } in
    let paths = shapes_of c.args.forms.now.forms.items in
    let s = body_at (bodies_of paths c.args.bodies.now.forms.items) c.args.place in
    let size : c.size.result ≡ size_of_body s = c.size.ensures paths c.requires.are in
    let new = c.new.ensures in
    check_is_made c.bodies_are_as_large_as_their_shapes.ensures place s c.args.heading.now.at c.new.result c.args.heading.now.name.now c.args.heading.now.at_most c.args.heading.now.when.now
    (ap (λ (check : Checked). check.name) new ∙ c.in_ok-name.ensures.name) (ap (λ (check : Checked). check.at_most) new)
    (ap (λ (check : Checked). check.when) new ∙ c.in_ok-name.ensures.when) (c.in-Ok.ensures.body ∙ sym (ap (λ (check : Checked). check.body) new))
    (c.in-Ok.ensures.classes ∙ sym (ap (λ (check : Checked). map listing_of check.classes) new))
    (c.in_ok-fit.ensures.shallow_before (body_measures s) size) (c.in_ok-fit.ensures.shallow_after (body_measures s) size)
    (c.in_ok-fit.ensures.few (body_measures s) size) c.in-Ok.ensures.few
