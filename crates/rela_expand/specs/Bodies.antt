-- Expanded specifications as a graph, like path expressions.
use Rattle.std.specs.Prelude.{◌≡◌, ℕ, ◌+◌, ◌<◌, ◌≤◌, max, List, [], ◌∷◌, ◌++◌, length, map, slice_index_or}
use Rattle.std.specs.List.{fold}
use Rattle.rela_spec.specs.declared.tree.Modifier.{Modifier}
use Rattle.rela_spec.specs.declared.tree.Modifier.TheVariants as m
use Rattle.rela_expand.specs.Forms.{capped_size, shape_at}
use Rattle.rela_expand.specs.Measures.{Measures, body_measures}
use Rattle.rela_expand.specs.Shapes.{Shape, BodyShape, Unit as Unit', Then, Else, no_body}
use Rattle.rela_expand.specs.declared.bodies.BodyForm.{BodyForm}
use Rattle.rela_expand.specs.declared.bodies.BodyJoint.{BodyJoint}
use Rattle.rela_expand.specs.declared.bodies.BodyJoint.TheVariants as joint
use Rattle.rela_expand.specs.declared.bodies.BodyLayer.{BodyLayer}
use Rattle.rela_expand.specs.declared.bodies.BodyLayer.TheVariants as layer
use Rattle.rela_expand.specs.declared.bodies.BodySize.{BodySize}

abbrev pub body_joined : BodyJoint → BodyShape → BodyShape → BodyShape
body_joined joint.Then = Then
body_joined joint.Else = Else

abbrev pub body_at : List BodyShape → ℕ → BodyShape
body_at bodies k = slice_index_or bodies k no_body

abbrev pub modifier_at : List Shape → Modifier ℕ → Modifier Shape
modifier_at paths m.Preserve = m.Preserve
modifier_at paths (m.Add p) = m.Add (shape_at paths p)
modifier_at paths (m.Remove p) = m.Remove (shape_at paths p)
modifier_at paths (m.Replace p q) = m.Replace (shape_at paths p) (shape_at paths q)
modifier_at paths m.Drop = m.Drop
modifier_at paths (m.AnyOf p) = m.AnyOf (shape_at paths p)
modifier_at paths (m.Ignore p) = m.Ignore (shape_at paths p)

-- the shape of a layer, by the shapes of paths and of what stands before it
abbrev pub body_in : List Shape → List BodyShape → BodyLayer → BodyShape
body_in paths bodies (layer.Unit zone c) = Unit' (shape_at paths zone) (modifier_at paths c)
body_in paths bodies (layer.Join by a b) = body_joined by (body_at bodies a) (body_at bodies b)

-- the shapes of forms, each by those before it
unfoldable pub bodies_of : List Shape → List BodyForm → List BodyShape
bodies_of paths forms = fold (λ bodies form.
    bodies ++ body_in paths bodies form.layer ∷ []) [] forms

-- behind which places the parts of a layer stand, and behind which its paths
abbrev pub behind_parts : BodyLayer → ℕ
behind_parts (layer.Unit zone c) = 0
behind_parts (layer.Join by a b) = max (a + 1) (b + 1)

abbrev pub behind_modifier : Modifier ℕ → ℕ
behind_modifier m.Preserve = 0
behind_modifier (m.Add p) = p + 1
behind_modifier (m.Remove p) = p + 1
behind_modifier (m.Replace p q) = max (p + 1) (q + 1)
behind_modifier m.Drop = 0
behind_modifier (m.AnyOf p) = p + 1
behind_modifier (m.Ignore p) = p + 1

abbrev pub behind_paths : BodyLayer → ℕ
behind_paths (layer.Unit zone c) = max (zone + 1) (behind_modifier c)
behind_paths (layer.Join by a b) = 0

abbrev pub capped_sizes : Measures → BodySize
capped_sizes sizes = record {
  zone = capped_size sizes.zone;
  before = capped_size sizes.before;
  after = capped_size sizes.after;
}

abbrev pub size_of_body : BodyShape → BodySize
size_of_body shape = capped_sizes (body_measures shape)

-- the parts of each form stand before it, its paths are there, and its size is that of its shape
pub record AreBodies (paths : List Shape) (forms : List BodyForm) : Type 0 where
  pub below : (k : ℕ) (d : BodyForm) → k < length forms →
      behind_parts (slice_index_or forms k d).layer ≤ k
  pub zoned : (k : ℕ) (d : BodyForm) → k < length forms →
      behind_paths (slice_index_or forms k d).layer ≤ length paths
  pub sizes : map (λ form. form.size) forms ≡ map size_of_body (bodies_of paths forms)

-- what was there keeps its place
pub record Grows (old new : List BodyShape) : Type 0 where
  pub longer : length old ≤ length new
  pub same : (k : ℕ) → k < length old → body_at new k ≡ body_at old k

-- the shape stands at this place
pub record StandsFor (bodies : List BodyShape) (shape : BodyShape) (k : ℕ) : Type 0 where
  pub inside : k < length bodies
  pub is : body_at bodies k ≡ shape
