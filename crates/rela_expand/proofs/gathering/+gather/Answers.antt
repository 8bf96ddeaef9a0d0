use Rattle.std.proofs.Common.{◌≡◌, Err, take, subst, arith}
use Rattle.std.proofs.lemmas.List.{take_all}
use Rattle.rela_spec.specs.declared.tree.PathExpr.{PathExpr}
use Rattle.rela_expand.specs.Forms.{shapes_of}
use Rattle.rela_expand.specs.Gathers.{path_shape}
use Rattle.rela_expand.specs.Scopes.{IsMade}
use Rattle.rela_expand.proofs.FormLaws.{extends_twice}
use Rattle.rela_expand.proofs.PathGathering.{one_made, one_stops, all_made}
use Rattle.rela_expand.proofs.gathering.+gather.Goals as goal

pub gather_all-returns-in_err-gather-clause-refused : goal.gather_all-returns-in_err-gather-clause-refused
gather_all-returns-in_err-gather-clause-refused t c =
    let start = shapes_of c.args.forms.now.forms.items in
    let mid = shapes_of c.loop-part.forms.forms.items in
    let e = c.in_err-gather.field-0.0 in
    let fault : c.from_residual.result ≡ Err e = grind arith in
    rw fault
    (λ apart.
    one_stops c.args.scope.now start mid c.args.parts.now c.loop-part.part-index c.part-item.result c.loop-part.places.items e c.requires c.loop-part-test.true
    c.loop-part.invariant.0 c.loop-part.invariant.1
    (subst (λ (p : PathExpr). path_shape c.args.scope.now mid p ≡ Err e) c.part-item.is (c.in_err-gather.ensures.refused apart)))

pub gather_all-loop-part-preserved : goal.gather_all-loop-part-preserved
gather_all-loop-part-preserved t c =
    let start = shapes_of c.args.forms.now.forms.items in
    let mid = shapes_of c.loop-part.forms.forms.items in
    let new = shapes_of c.gather.new.forms.forms.items in (
      extends_twice start mid new c.loop-part.invariant.0 c.gather.ensures.grown,
      one_made c.args.scope.now start mid new c.args.parts.now c.loop-part.part-index c.part-item.result c.loop-part.places.items c.push.new.self.items
          c.in_ok-gather.field-0 c.requires c.loop-part-test.true c.loop-part.invariant.0 c.loop-part.invariant.1 c.gather.ensures.grown
          (subst (λ (p : PathExpr). IsMade (path_shape c.args.scope.now mid p) new c.in_ok-gather.field-0) c.part-item.is c.in_ok-gather.ensures.made)
          c.in_ok-push.ensures.items,
    )

pub gather_all-returns-clause-made : goal.gather_all-returns-clause-made
gather_all-returns-clause-made t c =
    let start = shapes_of c.args.forms.now.forms.items in
    all_made (path_shape c.args.scope.now start) (shapes_of c.loop-part.forms.forms.items) c.args.parts.now (take c.loop-part.part-index c.args.parts.now) c.loop-part.places.items
    (take_all c.loop-part.part-index c.args.parts.now c.loop-part-test.false) c.loop-part.invariant.1
