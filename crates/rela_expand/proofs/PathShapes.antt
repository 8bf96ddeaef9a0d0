-- The shape of each form of path expression.
use Rattle.std.proofs.Common.{◌≡◌, ℕ, Bool, true, false, List, [], ◌∷◌, map, Option, Result, Ok, Err, refl, ap, sym, ◌∙◌}
use Rattle.rela_json.specs.Results.{◌>>=◌, ok_or}
use Rattle.rela_lex.specs.declared.error.SpecError.{SpecError}
use Rattle.rela_lex.specs.declared.error.SpecError.TheVariants.{UnknownName}
use Rattle.rela_spec.specs.declared.tree.Member.{Member}
use Rattle.rela_spec.specs.declared.tree.PathExpr.{PathExpr}
use Rattle.rela_spec.specs.declared.tree.PathExpr.TheVariants as V
use Rattle.rela_spec.specs.declared.tree.PathExpr.TheOpen as layer
use Rattle.rela_spec.specs.declared.tree.PathExpr.TheFolds.{fold-roll-PathExpr}
use Rattle.rela_expand.specs.Expansions.{tree_of}
use Rattle.rela_expand.specs.Gathers.{made_of, wrapped}
use Rattle.rela_expand.specs.Places.{Place}
use Rattle.rela_expand.specs.declared.gathering.Wrap.TheVariants as wrap
use Rattle.rela_expand.specs.Shapes.{Shape, Empty, Class, Seq, Alt, Meet, all_of, class_shape, layer_shape, shape_of}

as_steps : {A B : Type 0} (f : A → B) (r : Result A SpecError) → made_of f r ≡ (r >>= (λ x. Ok (f x)))
as_steps f (Ok x) = refl
as_steps f (Err e) = refl

pub shape_any : (place : Place) (names : List ℕ → Option Shape) → shape_of place names V.Any ≡ Ok (Class true [])
unfolding shape_of
shape_any place names = ap (shape_of place names) (sym V.rolls-Any) ∙ fold-roll-PathExpr (Result Shape SpecError) (layer_shape place names) layer.Any

pub shape_empty : (place : Place) (names : List ℕ → Option Shape) → shape_of place names V.Empty ≡ Ok Empty
unfolding shape_of
shape_empty place names = ap (shape_of place names) (sym V.rolls-Empty) ∙ fold-roll-PathExpr (Result Shape SpecError) (layer_shape place names) layer.Empty

pub shape_one : (place : Place) (names : List ℕ → Option Shape) (member : Member) → shape_of place names (V.One member) ≡ class_shape place false (member ∷ [])
unfolding shape_of
shape_one place names member = ap (shape_of place names) (sym (V.rolls-One member)) ∙ fold-roll-PathExpr (Result Shape SpecError) (layer_shape place names) (layer.One member)

pub shape_class : (place : Place) (names : List ℕ → Option Shape) (negated : Bool) (members : List Member) → shape_of place names (V.Class negated members) ≡ class_shape place negated members
unfolding shape_of
shape_class place names negated members =
    ap (shape_of place names) (sym (V.rolls-Class negated members)) ∙ fold-roll-PathExpr (Result Shape SpecError) (layer_shape place names) (layer.Class negated members)

pub shape_reference : (place : Place) (names : List ℕ → Option Shape) (name : List ℕ) (at : ℕ) → shape_of place names (V.Reference name at) ≡ ok_or (UnknownName at) (names name)
unfolding shape_of
shape_reference place names name at =
    ap (shape_of place names) (sym (V.rolls-Reference name at)) ∙ fold-roll-PathExpr (Result Shape SpecError) (layer_shape place names) (layer.Reference name at)

pub shape_seq : (place : Place) (names : List ℕ → Option Shape) (parts : List PathExpr)
    → shape_of place names (V.Seq parts) ≡ made_of (tree_of Seq Empty) (all_of (map (shape_of place names) parts))
unfolding shape_of
shape_seq place names parts = ap (shape_of place names) (sym (V.rolls-Seq parts)) ∙ fold-roll-PathExpr (Result Shape SpecError) (layer_shape place names) (layer.Seq parts)
    ∙ sym (as_steps (tree_of Seq Empty) (all_of (map (shape_of place names) parts)))

pub shape_alt : (place : Place) (names : List ℕ → Option Shape) (parts : List PathExpr)
    → shape_of place names (V.Alt parts) ≡ made_of (tree_of Alt Empty) (all_of (map (shape_of place names) parts))
unfolding shape_of
shape_alt place names parts = ap (shape_of place names) (sym (V.rolls-Alt parts)) ∙ fold-roll-PathExpr (Result Shape SpecError) (layer_shape place names) (layer.Alt parts)
    ∙ sym (as_steps (tree_of Alt Empty) (all_of (map (shape_of place names) parts)))

pub shape_and : (place : Place) (names : List ℕ → Option Shape) (parts : List PathExpr)
    → shape_of place names (V.And parts) ≡ made_of (tree_of Meet Empty) (all_of (map (shape_of place names) parts))
unfolding shape_of
shape_and place names parts = ap (shape_of place names) (sym (V.rolls-And parts)) ∙ fold-roll-PathExpr (Result Shape SpecError) (layer_shape place names) (layer.And parts)
    ∙ sym (as_steps (tree_of Meet Empty) (all_of (map (shape_of place names) parts)))

pub shape_not : (place : Place) (names : List ℕ → Option Shape) (part : PathExpr) → shape_of place names (V.Not part) ≡ made_of (wrapped wrap.Not) (shape_of place names part)
unfolding shape_of
shape_not place names part = ap (shape_of place names) (sym (V.rolls-Not part)) ∙ fold-roll-PathExpr (Result Shape SpecError) (layer_shape place names) (layer.Not part)
    ∙ sym (as_steps (wrapped wrap.Not) (shape_of place names part))

pub shape_star : (place : Place) (names : List ℕ → Option Shape) (part : PathExpr) → shape_of place names (V.Star part) ≡ made_of (wrapped wrap.Star) (shape_of place names part)
unfolding shape_of
shape_star place names part = ap (shape_of place names) (sym (V.rolls-Star part)) ∙ fold-roll-PathExpr (Result Shape SpecError) (layer_shape place names) (layer.Star part)
    ∙ sym (as_steps (wrapped wrap.Star) (shape_of place names part))

pub shape_plus : (place : Place) (names : List ℕ → Option Shape) (part : PathExpr) → shape_of place names (V.Plus part) ≡ made_of (wrapped wrap.Plus) (shape_of place names part)
unfolding shape_of
shape_plus place names part = ap (shape_of place names) (sym (V.rolls-Plus part)) ∙ fold-roll-PathExpr (Result Shape SpecError) (layer_shape place names) (layer.Plus part)
    ∙ sym (as_steps (wrapped wrap.Plus) (shape_of place names part))

pub shape_maybe : (place : Place) (names : List ℕ → Option Shape) (part : PathExpr) → shape_of place names (V.Maybe part) ≡ made_of (wrapped wrap.Maybe) (shape_of place names part)
unfolding shape_of
shape_maybe place names part = ap (shape_of place names) (sym (V.rolls-Maybe part)) ∙ fold-roll-PathExpr (Result Shape SpecError) (layer_shape place names) (layer.Maybe part)
    ∙ sym (as_steps (wrapped wrap.Maybe) (shape_of place names part))

pub shape_times : (place : Place) (names : List ℕ → Option Shape) (part : PathExpr) (n : ℕ)
    → shape_of place names (V.Times part n) ≡ made_of (wrapped (wrap.Times n)) (shape_of place names part)
unfolding shape_of
shape_times place names part n = ap (shape_of place names) (sym (V.rolls-Times part n)) ∙ fold-roll-PathExpr (Result Shape SpecError) (layer_shape place names) (layer.Times part n)
    ∙ sym (as_steps (wrapped (wrap.Times n)) (shape_of place names part))

pub ruleset path_shape_forms =
    (shape_any, shape_empty, shape_one, shape_class, shape_reference, shape_seq, shape_alt, shape_and, shape_not, shape_star, shape_plus, shape_maybe, shape_times)
