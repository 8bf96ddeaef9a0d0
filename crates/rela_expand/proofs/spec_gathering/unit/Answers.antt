use Rattle.std.proofs.Common.{◌≡◌, Err, arith}
use Rattle.rela_expand.specs.Forms.{shapes_of}
use Rattle.rela_expand.proofs.BodyGathering.{still_bodies, grows_over, unit_stops}
use Rattle.rela_expand.proofs.FormLaws.{extends_twice}
use Rattle.rela_expand.proofs.spec_gathering.unit.Goals as goal

pub add-requires : goal.add-requires
add-requires c =
    let start = shapes_of c.args.forms.now.forms.items in
    let mid = shapes_of c.gather.new.forms.forms.items in
    let new = shapes_of c.gather_modifier.new.forms.forms.items in
    let more = extends_twice start mid new c.gather.ensures.grown c.gather_modifier.ensures.grown in
    let zone = c.in_ok-zone.ensures.made.inside in
    let longer = c.gather_modifier.ensures.grown.longer in
    let modifier = c.in_ok-modifier.ensures.made.inside in
    record { are = still_bodies start new more c.args.bodies.now.forms.items c.requires.are; below = omega arith; zoned = omega arith }

pub returns-clause-grown : goal.returns-clause-grown
returns-clause-grown c =
    let start = shapes_of c.args.forms.now.forms.items in
    let mid = shapes_of c.gather.new.forms.forms.items in
    let new = shapes_of c.gather_modifier.new.forms.forms.items in
    let more = extends_twice start mid new c.gather.ensures.grown c.gather_modifier.ensures.grown in
    grows_over start new more c.args.bodies.now.forms.items c.add.new.self.forms.items c.requires.are c.add.ensures.grown

pub returns-in_err-modifier-clause-refused : goal.returns-in_err-modifier-clause-refused
returns-in_err-modifier-clause-refused c =
    let start = shapes_of c.args.forms.now.forms.items in
    let mid = shapes_of c.gather.new.forms.forms.items in
    let e = c.in_err-modifier.field-0.0 in
    let fault : c.from_residual-in_err-modifier.result ≡ Err e = grind arith in
    rw fault
    (λ apart.
    unit_stops c.args.scope.now start mid c.args.zone.now c.args.modifier.now c.in_ok-zone.zone e c.requires.known c.gather.ensures.grown c.in_ok-zone.ensures.made
    (c.in_err-modifier.ensures.refused apart))
