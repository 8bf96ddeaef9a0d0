use Rattle.std.proofs.Common.{take}
use Rattle.rela_json.specs.Results.{try_map}
use Rattle.rela_expand.specs.Bodies.{AreBodies, Grows, bodies_of}
use Rattle.rela_expand.specs.BodyGathers.{AreBodiesMade, spec_shape}
use Rattle.rela_expand.specs.Forms.{Extends, shapes_of}
use Rattle.rela_expand.proofs.spec_gathering.+gather_spec.Given as goal

abbrev pub invariant-gather_specs-loop-part : goal.invariant-gather_specs-loop-part
invariant-gather_specs-loop-part l =
    Extends (shapes_of l.initial.forms.forms.items) (shapes_of l.forms.forms.items)
    × AreBodies (shapes_of l.forms.forms.items) l.bodies.forms.items
    × Grows (bodies_of (shapes_of l.initial.forms.forms.items) l.initial.bodies.forms.items) (bodies_of (shapes_of l.forms.forms.items) l.bodies.forms.items)
    × AreBodiesMade (try_map (spec_shape l.scope (shapes_of l.initial.forms.forms.items) (bodies_of (shapes_of l.initial.forms.forms.items) l.initial.bodies.forms.items)) (take l.part-index l.parts))
    (bodies_of (shapes_of l.forms.forms.items) l.bodies.forms.items) l.places.items
