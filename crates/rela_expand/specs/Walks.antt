-- What has been read of the items so far, as the state of the walk over them has it.
use Rattle.std.specs.Prelude.{◌≡◌, ℕ, is_some, List, ◌∷◌, map}
use Rattle.rela_locations.specs.Names.{has_name}
use Rattle.rela_spec.specs.declared.tree.Item.{Item}
use Rattle.rela_spec.specs.declared.tree.Item.TheVariants.{Path, Spec, Check}
use Rattle.rela_expand.specs.Bodies.{AreBodies, bodies_of}
use Rattle.rela_expand.specs.BodyGathers.{AreBodiesKnown, all_named}
use Rattle.rela_expand.specs.Expand.{Expanded, outcome_of}
use Rattle.rela_expand.specs.Forms.{shapes_of}
use Rattle.rela_expand.specs.Scopes.{AreKnown, meaning_of}
use Rattle.rela_expand.specs.Shapes.{Shape, BodyShape}
use Rattle.rela_expand.specs.Walk.{Seen}
use Rattle.rela_expand.specs.declared.names.Definitions.{Definitions}
use Rattle.rela_expand.specs.declared.walking.Walk.{Walk}

-- the names that stand for something are these
abbrev pub AreTaken : Definitions → List (List ℕ) → Type 0
AreTaken definitions names = (name : List ℕ) → is_some (meaning_of definitions name)
    ≡ has_name names name

abbrev pub names_of : List Expanded → List (List ℕ)
names_of = map (λ check. check.name)

abbrev pub seen_with : List Shape → List BodyShape → Definitions → List (List ℕ) →
    List Expanded → Seen
seen_with paths bodies definitions taken checks =
    record { names = all_named paths bodies definitions; taken = taken; checks = checks }

-- what has been read, where these names are taken
abbrev pub seen_of : Walk → List (List ℕ) → Seen
seen_of walk taken =
    seen_with (shapes_of walk.forms.forms.items) (bodies_of (shapes_of walk.forms.forms.items)
    walk.bodies.forms.items) walk.names taken (map outcome_of walk.checks.items)

-- the names that are taken after one item more
abbrev pub taken_with : Item → List (List ℕ) → List (List ℕ)
taken_with (Path name at body) taken = name ∷ taken
taken_with (Spec name at body) taken = name ∷ taken
taken_with (Check at_most name at when body) taken = taken

-- names stand for forms that are there, and the checks' names are found
pub record IsWalk (walk : Walk) : Type 0 where
  pub known : AreKnown (shapes_of walk.forms.forms.items) walk.names
  pub specs_known : AreBodiesKnown (bodies_of (shapes_of walk.forms.forms.items)
      walk.bodies.forms.items) walk.names
  pub are : AreBodies (shapes_of walk.forms.forms.items) walk.bodies.forms.items
  pub named : AreTaken walk.check_names (names_of (map outcome_of walk.checks.items))
