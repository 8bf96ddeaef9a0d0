use Rattle.std.proofs.Common.{◌≡◌, Err, arith}
use Rattle.rela_expand.specs.Forms.{shapes_of}
use Rattle.rela_expand.proofs.BodyGathering.{modifier_of_two, stopped_two}
use Rattle.rela_expand.proofs.spec_gathering.gather_modifier.Goals as goal

pub returns-in_err-new-in-Replace-clause-refused : goal.returns-in_err-new-in-Replace-clause-refused
returns-in_err-new-in-Replace-clause-refused c =
    let start = shapes_of c.args.forms.now.forms.items in
    let mid = shapes_of c.gather-in-Replace.new.forms.forms.items in
    let e = c.in_err-new-in-Replace.field-0.0 in
    let fault : c.from_residual-in_err-new-in-Replace.result ≡ Err e = grind arith in
    rw fault
    (λ apart.
    stopped_two c.args.scope.now start c.in-Replace.old c.in-Replace.new c.args.modifier.now mid c.in_ok-old-in-Replace.old e c.in-Replace.is c.requires
    c.gather-in-Replace.ensures.grown c.in_ok-old-in-Replace.ensures.made (c.in_err-new-in-Replace.ensures.refused apart))

pub returns-in_ok-new-in-Replace-clause-made : goal.returns-in_ok-new-in-Replace-clause-made
returns-in_ok-new-in-Replace-clause-made c =
    let start = shapes_of c.args.forms.now.forms.items in
    let mid = shapes_of c.gather-in-Replace.new.forms.forms.items in
    let new = shapes_of c.gather-in-Replace-2.new.forms.forms.items in
    modifier_of_two c.args.scope.now start c.in-Replace.old c.in-Replace.new c.args.modifier.now mid new c.in_ok-old-in-Replace.old c.in_ok-new-in-Replace.new c.in-Replace.is
    c.requires c.gather-in-Replace.ensures.grown c.gather-in-Replace-2.ensures.grown c.in_ok-old-in-Replace.ensures.made c.in_ok-new-in-Replace.ensures.made
