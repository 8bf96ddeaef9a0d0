use Rattle.std.proofs.Common.{take}
use Rattle.rela_json.specs.Results.{try_map}
use Rattle.rela_expand.specs.Forms.{Extends, shapes_of}
use Rattle.rela_expand.specs.Gathers.{path_shape}
use Rattle.rela_expand.specs.Scopes.{AreMade}
use Rattle.rela_expand.proofs.gathering.+gather.Given as goal

abbrev pub invariant-gather_all-loop-part : goal.invariant-gather_all-loop-part
invariant-gather_all-loop-part l =
    Extends (shapes_of l.initial.forms.forms.items) (shapes_of l.forms.forms.items)
    × AreMade (try_map (path_shape l.scope (shapes_of l.initial.forms.forms.items)) (take l.part-index l.parts)) (shapes_of l.forms.forms.items) l.places.items
