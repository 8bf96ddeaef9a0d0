use Rattle.std.proofs.Common.{◌≡◌, Err, take, subst, ap, ◌∙◌, arith}
use Rattle.std.specs.Prelude.{◌≢◌}
use Rattle.std.proofs.lemmas.List.{take_all}
use Rattle.rela_json.specs.Results.{ok_or}
use Rattle.rela_lex.specs.declared.error.SpecError.TheVariants.{Memory, UnknownName}
use Rattle.rela_spec.specs.declared.tree.SpecExpr.{SpecExpr}
use Rattle.rela_expand.specs.Bodies.{bodies_of}
use Rattle.rela_expand.specs.BodyGathers.{IsBody, all_named, specs_named, spec_shape}
use Rattle.rela_expand.specs.Forms.{shapes_of}
use Rattle.rela_expand.specs.Places.{Place}
use Rattle.rela_expand.proofs.BodyGathering.{one_body_made, one_body_stops, all_bodies_made, if_err}
use Rattle.rela_expand.proofs.BodyLaws.{grows_twice}
use Rattle.rela_expand.proofs.FormLaws.{extends_twice}
use Rattle.rela_expand.proofs.SpecShapes.{spec_reference}
use Rattle.rela_expand.proofs.spec_gathering.+gather_spec.Goals as goal

pub gather_spec-returns-in-Reference-clause-refused : goal.gather_spec-returns-in-Reference-clause-refused
gather_spec-returns-in-Reference-clause-refused t c =
    let scope = c.args.scope.now in
    let place : Place = record { network = scope.locations.now; level = scope.level } in
    let start = shapes_of c.args.forms.now.forms.items in
    let bodies = bodies_of start c.args.bodies.now.forms.items in
    if_err c.named_spec.result
    (λ e. ok_or (UnknownName c.in-Reference.at) (specs_named bodies scope.names.now c.in-Reference.name) ≡ Err e)
    (λ e. e ≢ Memory → spec_shape scope start bodies c.args.spec.now ≡ Err e)
    (λ e refused apart. ap (spec_shape scope start bodies) c.in-Reference.is ∙ spec_reference place (all_named start bodies scope.names.now) c.in-Reference.name c.in-Reference.at ∙ refused)
    (c.named_spec.ensures.refused bodies)

pub gather_specs-returns-in_err-gather_spec-clause-refused : goal.gather_specs-returns-in_err-gather_spec-clause-refused
gather_specs-returns-in_err-gather_spec-clause-refused t c =
    let start = shapes_of c.args.forms.now.forms.items in
    let mid = shapes_of c.loop-part.forms.forms.items in
    let old = bodies_of start c.args.bodies.now.forms.items in
    let here = bodies_of mid c.loop-part.bodies.forms.items in
    let e = c.in_err-gather_spec.field-0.0 in
    let fault : c.from_residual.result ≡ Err e = grind arith in
    rw fault
    (λ apart.
    one_body_stops c.args.scope.now start mid old here c.args.parts.now c.loop-part.part-index c.part-item.result c.loop-part.places.items
    c.requires.known c.requires.specs_known c.loop-part.invariant.0 c.loop-part.invariant.2 c.loop-part-test.true c.loop-part.invariant.3 e
    (subst (λ (p : SpecExpr). spec_shape c.args.scope.now mid here p ≡ Err e) c.part-item.is (c.in_err-gather_spec.ensures.refused apart)))

pub gather_specs-loop-part-preserved : goal.gather_specs-loop-part-preserved
gather_specs-loop-part-preserved t c =
    let start = shapes_of c.args.forms.now.forms.items in
    let mid = shapes_of c.loop-part.forms.forms.items in
    let end = shapes_of c.gather_spec.new.forms.forms.items in
    let old = bodies_of start c.args.bodies.now.forms.items in
    let here = bodies_of mid c.loop-part.bodies.forms.items in
    let new = bodies_of end c.gather_spec.new.bodies.forms.items in (
      extends_twice start mid end c.loop-part.invariant.0 c.gather_spec.ensures.paths,
      c.in_ok-gather_spec.ensures.are,
      grows_twice old here new c.loop-part.invariant.2 c.in_ok-gather_spec.ensures.grown,
      one_body_made c.args.scope.now start mid old here c.args.parts.now c.loop-part.part-index c.part-item.result c.loop-part.places.items
          c.requires.known c.requires.specs_known c.loop-part.invariant.0 c.loop-part.invariant.2 c.loop-part-test.true c.loop-part.invariant.3 new c.push.new.self.items
          c.in_ok-gather_spec.field-0 c.in_ok-gather_spec.ensures.grown
          (subst (λ (p : SpecExpr). IsBody (spec_shape c.args.scope.now mid here p) new c.in_ok-gather_spec.field-0) c.part-item.is c.in_ok-gather_spec.ensures.made)
          c.in_ok-push.ensures.items,
    )

pub gather_specs-returns-clause-made : goal.gather_specs-returns-clause-made
gather_specs-returns-clause-made t c =
    let start = shapes_of c.args.forms.now.forms.items in
    let old = bodies_of start c.args.bodies.now.forms.items in
    all_bodies_made (spec_shape c.args.scope.now start old) (bodies_of (shapes_of c.loop-part.forms.forms.items) c.loop-part.bodies.forms.items) c.args.parts.now
    (take c.loop-part.part-index c.args.parts.now) c.loop-part.places.items (take_all c.loop-part.part-index c.args.parts.now c.loop-part-test.false) c.loop-part.invariant.3
