-- What names stand for where an expression is read, as far as the forms made so far tell.
use Rattle.std.specs.Prelude.{◌≡◌, ℕ, ◌<◌, List, length, map, Option, None, Some, Result, Ok}
use Rattle.std.specs.List.{All}
use Rattle.std.specs.Map.{lookup}
use Rattle.std.specs.Str.{bytes_eq}
use Rattle.rela_lex.specs.declared.error.SpecError.{SpecError}
use Rattle.rela_expand.specs.Forms.{shape_at}
use Rattle.rela_expand.specs.Shapes.{Shape}
use Rattle.rela_expand.specs.declared.names.Definitions.{Definitions}
use Rattle.rela_expand.specs.declared.names.Meaning.{Meaning}
use Rattle.rela_expand.specs.declared.names.Meaning.TheVariants as meaning

-- what the name stands for
abbrev pub meaning_of : Definitions → List ℕ → Option Meaning
meaning_of definitions name = lookup (λ key. bytes_eq name key.now) definitions.meanings.entries

abbrev pub path_at : List Shape → Option Meaning → Option Shape
path_at shapes None = None
path_at shapes (Some (meaning.Path k)) = Some (shape_at shapes k)
path_at shapes (Some (meaning.Spec k)) = None

-- the shapes that names of paths stand for
abbrev pub paths_named : List Shape → Definitions → List ℕ → Option Shape
paths_named shapes definitions name = path_at shapes (meaning_of definitions name)

-- each name of a path has its form
abbrev pub AreKnown : List Shape → Definitions → Type 0
AreKnown shapes definitions = (name : List ℕ) (k : ℕ) → meaning_of definitions name
    ≡ Some (meaning.Path k) → k < length shapes

-- what is shaped stands at this place
pub record IsMade (shaped : Result Shape SpecError) (shapes : List Shape) (k : ℕ) : Type 0 where
  pub inside : k < length shapes
  pub is : shaped ≡ Ok (shape_at shapes k)

-- what is shaped stands at these places, in order
pub record AreMade (shaped : Result (List Shape) SpecError) (shapes : List Shape)
    (ks : List ℕ) : Type 0 where
  pub inside : All (λ k. k < length shapes) ks
  pub are : shaped ≡ Ok (map (shape_at shapes) ks)
