-- What bodies are gathered for.
use Rattle.std.specs.Prelude.{◌≡◌, ℕ, ◌<◌, ◌≤◌, List, length, map, Option, None, Some, Result, Ok}
use Rattle.std.specs.List.{All}
use Rattle.rela_json.specs.Results.{◌>>=◌}
use Rattle.rela_lex.specs.declared.error.SpecError.{SpecError}
use Rattle.rela_spec.specs.declared.tree.Modifier.{Modifier}
use Rattle.rela_spec.specs.declared.tree.PathExpr.{PathExpr}
use Rattle.rela_spec.specs.declared.tree.SpecExpr.{SpecExpr}
use Rattle.rela_expand.specs.Bodies.{behind_modifier, body_at, modifier_at}
use Rattle.rela_expand.specs.Gathers.{path_shape}
use Rattle.rela_expand.specs.Scopes.{meaning_of, paths_named}
use Rattle.rela_expand.specs.Shapes.{Shape, BodyShape, Unit as Unit', Shapes, change_shape, body_shape_of}
use Rattle.rela_expand.specs.declared.gathering.Scope.{Scope}
use Rattle.rela_expand.specs.declared.names.Definitions.{Definitions}
use Rattle.rela_expand.specs.declared.names.Meaning.{Meaning}
use Rattle.rela_expand.specs.declared.names.Meaning.TheVariants as meaning

abbrev pub spec_at : List BodyShape → Option Meaning → Option BodyShape
spec_at bodies None = None
spec_at bodies (Some (meaning.Path k)) = None
spec_at bodies (Some (meaning.Spec k)) = Some (body_at bodies k)

-- the shapes that names of specifications stand for
abbrev pub specs_named : List BodyShape → Definitions → List ℕ → Option BodyShape
specs_named bodies definitions name = spec_at bodies (meaning_of definitions name)

-- what names stand for
abbrev pub all_named : List Shape → List BodyShape → Definitions → Shapes
all_named paths bodies definitions = record {
  paths = paths_named paths definitions;
  specs = specs_named bodies definitions;
}

-- each name of a specification has its body
abbrev pub AreBodiesKnown : List BodyShape → Definitions → Type 0
AreBodiesKnown bodies definitions = (name : List ℕ) (k : ℕ) → meaning_of definitions name
    ≡ Some (meaning.Spec k) → k < length bodies

abbrev pub modifier_shape : Scope → List Shape → Modifier PathExpr →
    Result (Modifier Shape) SpecError
modifier_shape scope shapes = change_shape (record {
  network = scope.locations.now;
  level = scope.level;
}) (paths_named shapes scope.names.now)

-- the shape of a unit, or its first refusal
abbrev pub unit_shape : Scope → List Shape → PathExpr → Modifier PathExpr →
    Result BodyShape SpecError
unit_shape scope shapes zone c = path_shape scope shapes zone >>= (λ z.
    modifier_shape scope shapes c >>= (λ m. Ok (Unit' z m)))

-- the shape of a specification, or its first refusal
abbrev pub spec_shape : Scope → List Shape → List BodyShape → SpecExpr → Result BodyShape SpecError
spec_shape scope shapes bodies = body_shape_of (record {
  network = scope.locations.now;
  level = scope.level;
}) (all_named shapes bodies scope.names.now)

-- the paths of the modifier stand at these places
pub record IsModifier (shaped : Result (Modifier Shape) SpecError) (shapes : List Shape)
    (c : Modifier ℕ) : Type 0 where
  pub inside : behind_modifier c ≤ length shapes
  pub is : shaped ≡ Ok (modifier_at shapes c)

-- what is shaped stands at this place
pub record IsBody (shaped : Result BodyShape SpecError) (bodies : List BodyShape)
    (k : ℕ) : Type 0 where
  pub inside : k < length bodies
  pub is : shaped ≡ Ok (body_at bodies k)

-- what is shaped stands at these places, in order
pub record AreBodiesMade (shaped : Result (List BodyShape) SpecError) (bodies : List BodyShape)
    (ks : List ℕ) : Type 0 where
  pub inside : All (λ k. k < length bodies) ks
  pub are : shaped ≡ Ok (map (body_at bodies) ks)
