-- Expanded path expressions as a graph: a list of layers, each of which names its parts by their places before it.
use Rattle.std.specs.Prelude.{◌≡◌, ℕ, ◌+◌, ◌-◌, ◌^◌, ◌<◌, ◌≤◌, max, min, true, false, List, [], ◌∷◌, ◌++◌, length, map, slice_index_or}
use Rattle.std.specs.List.{fold}
use Rattle.rela_expand.specs.Measures.{Measure}
use Rattle.rela_expand.specs.Shapes.{Shape, Empty, Class, Seq, Alt, Meet, Not, Star, nodes_of_shape, depth_of_shape}
use Rattle.rela_expand.specs.declared.forms.Joint.{Joint}
use Rattle.rela_expand.specs.declared.forms.Joint.TheVariants as joint
use Rattle.rela_expand.specs.declared.forms.Layer.{Layer}
use Rattle.rela_expand.specs.declared.forms.Layer.TheVariants as layer
use Rattle.rela_expand.specs.declared.forms.Form.{Form}
use Rattle.rela_expand.specs.declared.forms.Size.{Size}

abbrev pub joined : Joint → Shape → Shape → Shape
joined joint.Seq = Seq
joined joint.Alt = Alt
joined joint.Meet = Meet

abbrev pub shape_at : List Shape → ℕ → Shape
shape_at shapes k = slice_index_or shapes k Empty

-- the shape of a layer, by the shapes of what stands before it
abbrev pub shape_in : List Shape → Layer → Shape
shape_in shapes layer.Empty = Empty
shape_in shapes layer.Any = Class true []
shape_in shapes (layer.One member) = Class false (member.now ∷ [])
shape_in shapes (layer.Class negated members) = Class negated members.now
shape_in shapes (layer.Join by a b) = joined by (shape_at shapes a) (shape_at shapes b)
shape_in shapes (layer.Not a) = Not (shape_at shapes a)
shape_in shapes (layer.Star a) = Star (shape_at shapes a)

-- the shapes of forms, each by those before it
unfoldable pub shapes_of : List Form → List Shape
shapes_of forms = fold (λ shapes form. shapes ++ shape_in shapes form.layer ∷ []) [] forms

-- behind which places the parts of a layer stand: one more than the last of them, or 0
abbrev pub behind : Layer → ℕ
behind (layer.Join by a b) = max (a + 1) (b + 1)
behind (layer.Not a) = a + 1
behind (layer.Star a) = a + 1
behind _ = 0

abbrev pub capped : ℕ → ℕ
capped n = min n (2 ^ 64 - 1)

abbrev pub capped_size : Measure → Size
capped_size measure = record { nodes = capped measure.nodes; depth = capped measure.depth }

-- how large the term of a shape is, as far as 64 bits tell
abbrev pub size_of : Shape → Size
size_of shape = record {
  nodes = capped (nodes_of_shape shape);
  depth = capped (depth_of_shape shape);
}

-- the parts of each form stand before it, and its size is that of its shape
pub record AreForms (forms : List Form) : Type 0 where
  pub below : (k : ℕ) (d : Form) → k < length forms → behind (slice_index_or forms k d).layer ≤ k
  pub sizes : map (λ form. form.size) forms ≡ map size_of (shapes_of forms)

-- what was there keeps its place
pub record Extends (old new : List Shape) : Type 0 where
  pub longer : length old ≤ length new
  pub same : (k : ℕ) → k < length old → shape_at new k ≡ shape_at old k

-- the shape stands at this place
pub record StandsAt (shapes : List Shape) (shape : Shape) (k : ℕ) : Type 0 where
  pub inside : k < length shapes
  pub is : shape_at shapes k ≡ shape
