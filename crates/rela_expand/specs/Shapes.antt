-- What path expressions and specifications come to before their classes and markers are numbered: names are replaced
-- by what they stand for, short forms are written out, and lists are binary trees.
use Rattle.std.specs.Prelude.{ℕ, ◌+◌, max, Bool, true, false, List, [], ◌∷◌, replicate, Option, Result, Ok}
use Rattle.rela_json.specs.Results.{◌>>=◌, ok_or, try_map}
use Rattle.rela_lex.specs.declared.error.SpecError.{SpecError}
use Rattle.rela_lex.specs.declared.error.SpecError.TheVariants.{UnknownName}
use Rattle.rela_spec.specs.declared.tree.Member.{Member}
use Rattle.rela_spec.specs.declared.tree.Modifier.{Modifier}
use Rattle.rela_spec.specs.declared.tree.Modifier.TheVariants as m
use Rattle.rela_spec.specs.declared.tree.PathExpr.{PathExpr}
use Rattle.rela_spec.specs.declared.tree.PathExpr.TheOpen as e
use Rattle.rela_spec.specs.declared.tree.PathExpr.TheFolds.{fold-PathExpr}
use Rattle.rela_spec.specs.declared.tree.SpecExpr.{SpecExpr}
use Rattle.rela_spec.specs.declared.tree.SpecExpr.TheOpen as s
use Rattle.rela_spec.specs.declared.tree.SpecExpr.TheFolds.{fold-SpecExpr}
use Rattle.rela_expand.specs.Expansions.{tree_of}
use Rattle.rela_expand.specs.Places.{Place, listed}

-- an expression whose classes stand with their members
pub data Shape : Type 0 where
  Empty : Shape
  Class : Bool → List Member → Shape
  Seq : Shape → Shape → Shape
  Alt : Shape → Shape → Shape
  Meet : Shape → Shape → Shape
  Not : Shape → Shape
  Star : Shape → Shape

-- a body whose markers have no numbers yet
pub data BodyShape : Type 0 where
  Unit : Shape → Modifier Shape → BodyShape
  Then : BodyShape → BodyShape → BodyShape
  Else : BodyShape → BodyShape → BodyShape

-- what names stand for
pub record Shapes : Type 0 where
  pub paths : List ℕ → Option Shape
  pub specs : List ℕ → Option BodyShape

-- each in its order, or the first refusal
abbrev pub all_of : {X : Type 0} → List (Result X SpecError) → Result (List X) SpecError
all_of = try_map (λ x. x)

abbrev pub sequence_shape : List Shape → Shape
sequence_shape = tree_of Seq Empty

-- the class of the members, each of which names some symbols
abbrev pub class_shape : Place → Bool → List Member → Result Shape SpecError
class_shape place negated members = do
  symbols ← listed place members
  Ok (Class negated members)

abbrev pub layer_shape : Place → (List ℕ → Option Shape) → e.PathExpr-F (Result Shape SpecError) →
    Result Shape SpecError
layer_shape place names e.Any = Ok (Class true [])
layer_shape place names e.Empty = Ok Empty
layer_shape place names (e.One member) = class_shape place false (member ∷ [])
layer_shape place names (e.Class negated members) = class_shape place negated members
layer_shape place names (e.Reference name at) = ok_or (UnknownName at) (names name)
layer_shape place names (e.Seq parts) = do
  xs ← all_of parts
  Ok (sequence_shape xs)
layer_shape place names (e.Alt parts) = do
  xs ← all_of parts
  Ok (tree_of Alt Empty xs)
layer_shape place names (e.And parts) = do
  xs ← all_of parts
  Ok (tree_of Meet Empty xs)
layer_shape place names (e.Not part) = do
  a ← part
  Ok (Not a)
layer_shape place names (e.Star part) = do
  a ← part
  Ok (Star a)
layer_shape place names (e.Plus part) = do
  a ← part
  Ok (Seq a (Star a))
layer_shape place names (e.Maybe part) = do
  a ← part
  Ok (Alt Empty a)
layer_shape place names (e.Times part n) = do
  a ← part
  Ok (sequence_shape (replicate n a))

-- the shape of a path expression, or its first refusal
unfoldable pub shape_of : Place → (List ℕ → Option Shape) → PathExpr → Result Shape SpecError
shape_of place names = fold-PathExpr (Result Shape SpecError) (layer_shape place names)

abbrev pub change_shape : Place → (List ℕ → Option Shape) → Modifier PathExpr →
    Result (Modifier Shape) SpecError
change_shape place names m.Preserve = Ok m.Preserve
change_shape place names (m.Add p) = do
  a ← shape_of place names p
  Ok (m.Add a)
change_shape place names (m.Remove p) = do
  a ← shape_of place names p
  Ok (m.Remove a)
change_shape place names (m.Replace p q) = do
  a ← shape_of place names p
  b ← shape_of place names q
  Ok (m.Replace a b)
change_shape place names m.Drop = Ok m.Drop
change_shape place names (m.AnyOf p) = do
  a ← shape_of place names p
  Ok (m.AnyOf a)
change_shape place names (m.Ignore p) = do
  a ← shape_of place names p
  Ok (m.Ignore a)

-- stands for a body that has no parts
abbrev pub no_body : BodyShape
no_body = Unit Empty m.Preserve

abbrev pub layer_body_shape : Place → Shapes → s.SpecExpr-F (Result BodyShape SpecError) →
    Result BodyShape SpecError
layer_body_shape place names (s.Unit zone modifier) = do
  z ← shape_of place names.paths zone
  c ← change_shape place names.paths modifier
  Ok (Unit z c)
layer_body_shape place names (s.Reference name at) = ok_or (UnknownName at) (names.specs name)
layer_body_shape place names (s.Then parts) = do
  xs ← all_of parts
  Ok (tree_of Then no_body xs)
layer_body_shape place names (s.Else parts) = do
  xs ← all_of parts
  Ok (tree_of Else no_body xs)

-- the shape of a specification, or its first refusal
unfoldable pub body_shape_of : Place → Shapes → SpecExpr → Result BodyShape SpecError
body_shape_of place names = fold-SpecExpr (Result BodyShape SpecError)
    (layer_body_shape place names)

-- the nodes of the term of an expression of this shape
abbrev pub nodes_of_shape : Shape → ℕ
nodes_of_shape Empty = 1
nodes_of_shape (Class negated members) = 1
nodes_of_shape (Seq a b) = nodes_of_shape a + nodes_of_shape b + 1
nodes_of_shape (Alt a b) = nodes_of_shape a + nodes_of_shape b + 1
nodes_of_shape (Meet a b) = nodes_of_shape a + nodes_of_shape b + 1
nodes_of_shape (Not a) = nodes_of_shape a + 1
nodes_of_shape (Star a) = nodes_of_shape a + 1

-- and how deep it is
abbrev pub depth_of_shape : Shape → ℕ
depth_of_shape Empty = 1
depth_of_shape (Class negated members) = 1
depth_of_shape (Seq a b) = max (depth_of_shape a) (depth_of_shape b) + 1
depth_of_shape (Alt a b) = max (depth_of_shape a) (depth_of_shape b) + 1
depth_of_shape (Meet a b) = max (depth_of_shape a) (depth_of_shape b) + 1
depth_of_shape (Not a) = depth_of_shape a + 1
depth_of_shape (Star a) = depth_of_shape a + 1
