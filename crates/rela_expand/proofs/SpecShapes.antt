-- The shape of each form of specification.
use Rattle.std.proofs.Common.{◌≡◌, ℕ, List, map, Result, Ok, Err, refl, ap, sym, ◌∙◌}
use Rattle.rela_json.specs.Results.{◌>>=◌, ok_or}
use Rattle.rela_lex.specs.declared.error.SpecError.{SpecError}
use Rattle.rela_lex.specs.declared.error.SpecError.TheVariants.{UnknownName}
use Rattle.rela_spec.specs.declared.tree.Modifier.{Modifier}
use Rattle.rela_spec.specs.declared.tree.PathExpr.{PathExpr}
use Rattle.rela_spec.specs.declared.tree.SpecExpr.{SpecExpr}
use Rattle.rela_spec.specs.declared.tree.SpecExpr.TheVariants as V
use Rattle.rela_spec.specs.declared.tree.SpecExpr.TheOpen as layer
use Rattle.rela_spec.specs.declared.tree.SpecExpr.TheFolds.{fold-roll-SpecExpr}
use Rattle.rela_expand.specs.Expansions.{tree_of}
use Rattle.rela_expand.specs.Gathers.{made_of}
use Rattle.rela_expand.specs.Places.{Place}
use Rattle.rela_expand.specs.Shapes.{BodyShape, Unit as Unit', Then, Else, Shapes, all_of, change_shape, shape_of, no_body, layer_body_shape, body_shape_of}

as_steps : {A B : Type 0} (f : A → B) (r : Result A SpecError) → made_of f r ≡ (r >>= (λ x. Ok (f x)))
as_steps f (Ok x) = refl
as_steps f (Err e) = refl

pub spec_unit : (place : Place) (names : Shapes) (zone : PathExpr) (c : Modifier PathExpr)
    → body_shape_of place names (V.Unit zone c) ≡ (shape_of place names.paths zone >>= (λ z. change_shape place names.paths c >>= (λ m. Ok (Unit' z m))))
unfolding body_shape_of
spec_unit place names zone c = ap (body_shape_of place names) (sym (V.rolls-Unit zone c)) ∙ fold-roll-SpecExpr (Result BodyShape SpecError) (layer_body_shape place names) (layer.Unit zone c)

pub spec_reference : (place : Place) (names : Shapes) (name : List ℕ) (at : ℕ) → body_shape_of place names (V.Reference name at) ≡ ok_or (UnknownName at) (names.specs name)
unfolding body_shape_of
spec_reference place names name at =
    ap (body_shape_of place names) (sym (V.rolls-Reference name at)) ∙ fold-roll-SpecExpr (Result BodyShape SpecError) (layer_body_shape place names) (layer.Reference name at)

pub spec_then : (place : Place) (names : Shapes) (parts : List SpecExpr)
    → body_shape_of place names (V.Then parts) ≡ made_of (tree_of Then no_body) (all_of (map (body_shape_of place names) parts))
unfolding body_shape_of
spec_then place names parts =
    ap (body_shape_of place names) (sym (V.rolls-Then parts)) ∙ fold-roll-SpecExpr (Result BodyShape SpecError) (layer_body_shape place names) (layer.Then parts)
    ∙ sym (as_steps (tree_of Then no_body) (all_of (map (body_shape_of place names) parts)))

pub spec_else : (place : Place) (names : Shapes) (parts : List SpecExpr)
    → body_shape_of place names (V.Else parts) ≡ made_of (tree_of Else no_body) (all_of (map (body_shape_of place names) parts))
unfolding body_shape_of
spec_else place names parts =
    ap (body_shape_of place names) (sym (V.rolls-Else parts)) ∙ fold-roll-SpecExpr (Result BodyShape SpecError) (layer_body_shape place names) (layer.Else parts)
    ∙ sym (as_steps (tree_of Else no_body) (all_of (map (body_shape_of place names) parts)))

pub ruleset spec_shape_forms = (spec_unit, spec_reference, spec_then, spec_else)
