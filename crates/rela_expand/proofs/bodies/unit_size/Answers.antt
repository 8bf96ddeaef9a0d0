use Rattle.rela_expand.specs.Forms.{shape_at, shapes_of}
use Rattle.rela_expand.specs.Measures.{measure_of}
use Rattle.rela_expand.proofs.bodies.unit_size.Goals as goal

pub returns-in-Remove : goal.returns-in-Remove
returns-in-Remove c =
    let shapes = shapes_of c.args.paths.now.forms.items in
    let z = measure_of (shape_at shapes c.args.zone) in
    let p = measure_of (shape_at shapes c.in-Remove.path) in
    let before = c.size_without.ensures z p c.size-z.ensures c.size-in-Remove.ensures in
    let after = c.of_one-in-Remove.ensures.measure z c.size-z.ensures in
    rw c.in-Remove.is (λ i. record { zone = c.size-z.ensures i; before = before i; after = after i })

pub returns-in-Replace : goal.returns-in-Replace
returns-in-Replace c =
    let shapes = shapes_of c.args.paths.now.forms.items in
    rw c.in-Replace.is
    (c.replaced_size.ensures (measure_of (shape_at shapes c.args.zone)) (measure_of (shape_at shapes c.in-Replace.old)) (measure_of (shape_at shapes c.in-Replace.new))
    c.size-z.ensures c.size-in-Replace.ensures c.size-in-Replace-2.ensures)

pub returns-in-AnyOf : goal.returns-in-AnyOf
returns-in-AnyOf c =
    let shapes = shapes_of c.args.paths.now.forms.items in
    rw c.in-AnyOf.is (c.any_size.ensures (measure_of (shape_at shapes c.args.zone)) (measure_of (shape_at shapes c.in-AnyOf.path)) c.size-z.ensures c.size-in-AnyOf.ensures)

pub returns-in-Ignore : goal.returns-in-Ignore
returns-in-Ignore c =
    let shapes = shapes_of c.args.paths.now.forms.items in
    let kept = c.size_without-kept.ensures (measure_of (shape_at shapes c.args.zone)) (measure_of (shape_at shapes c.in-Ignore.path)) c.size-z.ensures c.size-in-Ignore.ensures in
    rw c.in-Ignore.is (λ i. record { zone = c.size-z.ensures i; before = kept i; after = kept i })
