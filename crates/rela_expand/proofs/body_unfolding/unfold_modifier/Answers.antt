use Rattle.std.proofs.Common.{◌≡◌, ◌+◌, ℕ, Err, ap, ◌∙◌, arith}
use Rattle.rela_spec.specs.declared.tree.Modifier.{Modifier}
use Rattle.rela_expand.specs.Bodies.{behind_modifier, modifier_at}
use Rattle.rela_expand.specs.Forms.{shape_at, shapes_of}
use Rattle.rela_expand.specs.Measures.{weight_of_modifier}
use Rattle.rela_expand.specs.Numbered.{numbered, numbered_change, one_part, two_parts}
use Rattle.rela_expand.specs.Numbering.{Step}
use Rattle.rela_expand.specs.Places.{Place}
use Rattle.rela_expand.specs.Shapes.{nodes_of_shape}
use Rattle.rela_expand.specs.Tables.{numbering_of}
use Rattle.rela_spec.specs.declared.tree.Modifier.TheVariants as m
use Rattle.rela_translate.specs.declared.body.Change.TheVariants as change
use Rattle.rela_translate.specs.declared.body.Expr.{Expr}
use Rattle.rela_expand.proofs.BodyUnfolding.{any_numbered, kept_markers, replace_behind_large, replace_large, same_change_large}
use Rattle.rela_expand.proofs.PathUnfolding.{room_left}
use Rattle.rela_expand.proofs.body_unfolding.unfold_modifier.Goals as goal

pub unfold-requires-in-Replace-2-clause-room : goal.unfold-requires-in-Replace-2-clause-room
unfold-requires-in-Replace-2-clause-room c =
    let place : Place = record { network = c.args.locations.now; level = c.args.level } in
    let shapes = shapes_of c.args.forms.now.forms.items in
    let left = room_left place (shape_at shapes c.in-Replace.old) c.args.numbers.now c.unfold-in-Replace.new.numbers c.in_ok-old-in-Replace.old c.in_ok-old-in-Replace.ensures.unfolded in
    let weight : weight_of_modifier (modifier_at shapes c.args.modifier.now) ≡ nodes_of_shape (shape_at shapes c.in-Replace.old) + nodes_of_shape (shape_at shapes c.in-Replace.new) =
    ap (λ (m : Modifier ℕ). weight_of_modifier (modifier_at shapes m)) c.in-Replace.is in
    let room = c.requires.room in
    omega arith

pub overflow_add-numbers : goal.overflow_add-numbers
overflow_add-numbers c =
    let place : Place = record { network = c.args.locations.now; level = c.args.level } in
    let shapes = shapes_of c.args.forms.now.forms.items in
    let same = kept_markers place (shape_at shapes c.in-AnyOf.path) c.args.numbers.now c.unfold-in-AnyOf.new.numbers c.in_ok-path-in-AnyOf.path c.in_ok-path-in-AnyOf.ensures.unfolded in
    let few = c.requires.few in
    omega arith

pub returns-in_ok-path-in-AnyOf-clause-unfolded : goal.returns-in_ok-path-in-AnyOf-clause-unfolded
returns-in_ok-path-in-AnyOf-clause-unfolded c =
    let place : Place = record { network = c.args.locations.now; level = c.args.level } in
    let shapes = shapes_of c.args.forms.now.forms.items in
    any_numbered place (shape_at shapes c.in-AnyOf.path) (modifier_at shapes c.args.modifier.now) (numbering_of c.args.numbers.now) (numbering_of c.unfold-in-AnyOf.new.numbers)
    c.in_ok-path-in-AnyOf.path (ap (modifier_at shapes) c.in-AnyOf.is) c.in_ok-path-in-AnyOf.ensures.unfolded

pub returns-in_err-path-in-Add-clause-too_large : goal.returns-in_err-path-in-Add-clause-too_large
returns-in_err-path-in-Add-clause-too_large c =
    let place : Place = record { network = c.args.locations.now; level = c.args.level } in
    let shapes = shapes_of c.args.forms.now.forms.items in
    let fault : c.from_residual.result ≡ Err c.in_err-path-in-Add.field-0.0 = grind arith in
    rw fault
    (λ large.
    same_change_large place (modifier_at shapes c.args.modifier.now) (m.Add (shape_at shapes c.in-Add.path)) (numbering_of c.args.numbers.now) (ap (modifier_at shapes) c.in-Add.is)
    (c.in_err-path-in-Add.ensures.too_large large))

pub returns-in_ok-path-in-Add-clause-unfolded : goal.returns-in_ok-path-in-Add-clause-unfolded
returns-in_ok-path-in-Add-clause-unfolded c =
    let place : Place = record { network = c.args.locations.now; level = c.args.level } in
    let shapes = shapes_of c.args.forms.now.forms.items in
    ap (λ (x : Modifier ℕ). numbered_change place (modifier_at shapes x) (numbering_of c.args.numbers.now)) c.in-Add.is ∙ ap (one_part change.Add) c.in_ok-path-in-Add.ensures.unfolded

pub returns-in_err-path-in-Remove-clause-too_large : goal.returns-in_err-path-in-Remove-clause-too_large
returns-in_err-path-in-Remove-clause-too_large c =
    let place : Place = record { network = c.args.locations.now; level = c.args.level } in
    let shapes = shapes_of c.args.forms.now.forms.items in
    let fault : c.from_residual-in_err-path-in-Remove.result ≡ Err c.in_err-path-in-Remove.field-0.0 = grind arith in
    rw fault
    (λ large.
    same_change_large place (modifier_at shapes c.args.modifier.now) (m.Remove (shape_at shapes c.in-Remove.path)) (numbering_of c.args.numbers.now) (ap (modifier_at shapes) c.in-Remove.is)
    (c.in_err-path-in-Remove.ensures.too_large large))

pub returns-in_ok-path-in-Remove-clause-unfolded : goal.returns-in_ok-path-in-Remove-clause-unfolded
returns-in_ok-path-in-Remove-clause-unfolded c =
    let place : Place = record { network = c.args.locations.now; level = c.args.level } in
    let shapes = shapes_of c.args.forms.now.forms.items in
    ap (λ (x : Modifier ℕ). numbered_change place (modifier_at shapes x) (numbering_of c.args.numbers.now)) c.in-Remove.is ∙ ap (one_part change.Remove) c.in_ok-path-in-Remove.ensures.unfolded

pub returns-in_err-path-in-AnyOf-clause-too_large : goal.returns-in_err-path-in-AnyOf-clause-too_large
returns-in_err-path-in-AnyOf-clause-too_large c =
    let place : Place = record { network = c.args.locations.now; level = c.args.level } in
    let shapes = shapes_of c.args.forms.now.forms.items in
    let fault : c.from_residual-in_err-path-in-AnyOf.result ≡ Err c.in_err-path-in-AnyOf.field-0.0 = grind arith in
    rw fault
    (λ large.
    same_change_large place (modifier_at shapes c.args.modifier.now) (m.AnyOf (shape_at shapes c.in-AnyOf.path)) (numbering_of c.args.numbers.now) (ap (modifier_at shapes) c.in-AnyOf.is)
    (c.in_err-path-in-AnyOf.ensures.too_large large))

pub returns-in_err-path-in-Ignore-clause-too_large : goal.returns-in_err-path-in-Ignore-clause-too_large
returns-in_err-path-in-Ignore-clause-too_large c =
    let place : Place = record { network = c.args.locations.now; level = c.args.level } in
    let shapes = shapes_of c.args.forms.now.forms.items in
    let fault : c.from_residual-in_err-path-in-Ignore.result ≡ Err c.in_err-path-in-Ignore.field-0.0 = grind arith in
    rw fault
    (λ large.
    same_change_large place (modifier_at shapes c.args.modifier.now) (m.Ignore (shape_at shapes c.in-Ignore.path)) (numbering_of c.args.numbers.now) (ap (modifier_at shapes) c.in-Ignore.is)
    (c.in_err-path-in-Ignore.ensures.too_large large))

pub returns-in_ok-path-in-Ignore-clause-unfolded : goal.returns-in_ok-path-in-Ignore-clause-unfolded
returns-in_ok-path-in-Ignore-clause-unfolded c =
    let place : Place = record { network = c.args.locations.now; level = c.args.level } in
    let shapes = shapes_of c.args.forms.now.forms.items in
    ap (λ (x : Modifier ℕ). numbered_change place (modifier_at shapes x) (numbering_of c.args.numbers.now)) c.in-Ignore.is ∙ ap (one_part change.Ignore) c.in_ok-path-in-Ignore.ensures.unfolded

pub returns-in_err-old-in-Replace-clause-too_large : goal.returns-in_err-old-in-Replace-clause-too_large
returns-in_err-old-in-Replace-clause-too_large c =
    let place : Place = record { network = c.args.locations.now; level = c.args.level } in
    let shapes = shapes_of c.args.forms.now.forms.items in
    let fault : c.from_residual-in_err-old-in-Replace.result ≡ Err c.in_err-old-in-Replace.field-0.0 = grind arith in
    rw fault
    (λ large.
    same_change_large place (modifier_at shapes c.args.modifier.now) (m.Replace (shape_at shapes c.in-Replace.old) (shape_at shapes c.in-Replace.new)) (numbering_of c.args.numbers.now) (ap (modifier_at shapes) c.in-Replace.is)
    (replace_large place (shape_at shapes c.in-Replace.old) (shape_at shapes c.in-Replace.new) (numbering_of c.args.numbers.now) (c.in_err-old-in-Replace.ensures.too_large large)))

pub returns-in_err-new-in-Replace-clause-too_large : goal.returns-in_err-new-in-Replace-clause-too_large
returns-in_err-new-in-Replace-clause-too_large c =
    let place : Place = record { network = c.args.locations.now; level = c.args.level } in
    let shapes = shapes_of c.args.forms.now.forms.items in
    let fault : c.from_residual-in_err-new-in-Replace.result ≡ Err c.in_err-new-in-Replace.field-0.0 = grind arith in
    rw fault
    (λ large.
    same_change_large place (modifier_at shapes c.args.modifier.now) (m.Replace (shape_at shapes c.in-Replace.old) (shape_at shapes c.in-Replace.new)) (numbering_of c.args.numbers.now) (ap (modifier_at shapes) c.in-Replace.is)
    (replace_behind_large place (shape_at shapes c.in-Replace.old) (shape_at shapes c.in-Replace.new) (numbering_of c.args.numbers.now) (numbering_of c.unfold-in-Replace.new.numbers) c.in_ok-old-in-Replace.old c.in_ok-old-in-Replace.ensures.unfolded
    (c.in_err-new-in-Replace.ensures.too_large large)))

pub returns-in_ok-new-in-Replace-clause-unfolded : goal.returns-in_ok-new-in-Replace-clause-unfolded
returns-in_ok-new-in-Replace-clause-unfolded c =
    let place : Place = record { network = c.args.locations.now; level = c.args.level } in
    let shapes = shapes_of c.args.forms.now.forms.items in
    ap (λ (x : Modifier ℕ). numbered_change place (modifier_at shapes x) (numbering_of c.args.numbers.now)) c.in-Replace.is
    ∙ ap (λ (step : Step Expr). two_parts change.Replace step (numbered place (shape_at shapes c.in-Replace.new))) c.in_ok-old-in-Replace.ensures.unfolded
    ∙ ap (λ (step : Step Expr). record { value = change.Replace c.in_ok-old-in-Replace.old step.value; after = step.after }) c.in_ok-new-in-Replace.ensures.unfolded

pub unfold-requires-clause-room : goal.unfold-requires-clause-room
unfold-requires-clause-room c =
    let weight = ap (λ (x : Modifier ℕ). weight_of_modifier (modifier_at (shapes_of c.args.forms.now.forms.items) x)) c.in-Add.is in
    omega (arith, c.requires.room)

pub unfold-requires-clause-inside : goal.unfold-requires-clause-inside
unfold-requires-clause-inside c = omega (arith, ap behind_modifier c.in-Add.is, c.requires.inside)

pub unfold-requires-in-Remove-clause-room : goal.unfold-requires-in-Remove-clause-room
unfold-requires-in-Remove-clause-room c =
    let weight = ap (λ (x : Modifier ℕ). weight_of_modifier (modifier_at (shapes_of c.args.forms.now.forms.items) x)) c.in-Remove.is in
    omega (arith, c.requires.room)

pub unfold-requires-in-Remove-clause-inside : goal.unfold-requires-in-Remove-clause-inside
unfold-requires-in-Remove-clause-inside c = omega (arith, ap behind_modifier c.in-Remove.is, c.requires.inside)

pub unfold-requires-in-AnyOf-clause-room : goal.unfold-requires-in-AnyOf-clause-room
unfold-requires-in-AnyOf-clause-room c =
    let weight = ap (λ (x : Modifier ℕ). weight_of_modifier (modifier_at (shapes_of c.args.forms.now.forms.items) x)) c.in-AnyOf.is in
    omega (arith, c.requires.room)

pub unfold-requires-in-AnyOf-clause-inside : goal.unfold-requires-in-AnyOf-clause-inside
unfold-requires-in-AnyOf-clause-inside c = omega (arith, ap behind_modifier c.in-AnyOf.is, c.requires.inside)

pub unfold-requires-in-Ignore-clause-room : goal.unfold-requires-in-Ignore-clause-room
unfold-requires-in-Ignore-clause-room c =
    let weight = ap (λ (x : Modifier ℕ). weight_of_modifier (modifier_at (shapes_of c.args.forms.now.forms.items) x)) c.in-Ignore.is in
    omega (arith, c.requires.room)

pub unfold-requires-in-Ignore-clause-inside : goal.unfold-requires-in-Ignore-clause-inside
unfold-requires-in-Ignore-clause-inside c = omega (arith, ap behind_modifier c.in-Ignore.is, c.requires.inside)

pub unfold-requires-in-Replace-clause-room : goal.unfold-requires-in-Replace-clause-room
unfold-requires-in-Replace-clause-room c =
    let weight = ap (λ (x : Modifier ℕ). weight_of_modifier (modifier_at (shapes_of c.args.forms.now.forms.items) x)) c.in-Replace.is in
    omega (arith, c.requires.room)

pub unfold-requires-in-Replace-clause-inside : goal.unfold-requires-in-Replace-clause-inside
unfold-requires-in-Replace-clause-inside c = omega (arith, ap behind_modifier c.in-Replace.is, c.requires.inside)
