-- A table with a place for each pair of a shape, in which a pair's number stands once it was found.
use Rattle.std.specs.Prelude.{◌≡◌, ℕ, ◌+◌, ◌*◌, ◌<◌, ◌≤◌, ◌^◌, List, Option, None, Some, Contains, length, slice_get, slice_index_or}
use Rattle.std.specs.List.{All}
use Rattle.rela_pairs.specs.Reachable.{AreDistinct}
use Rattle.rela_pairs.specs.declared.pair.Pair.{Pair}
use Rattle.rela_pairs.specs.declared.shape.Shape.{Shape}

-- pairs, each of which fits the shape
pub record ShapedPairs : Type 0 where
  pub pairs : List Pair
  pub shape : Shape

-- the pair is one of states that there are
abbrev pub Fits : Shape → Pair → Type 0
Fits shape x = (x.left < shape.lefts) × (x.right < shape.rights)

-- where the number of a pair stands
abbrev pub place_of : Shape → Pair → ℕ
place_of shape x = x.left * shape.rights + x.right

-- what stands in the place of a pair: nothing where it wasn't found, and else its number
abbrev pub Tells : List Pair → Pair → Option ℕ → Type 0
Tells pairs x None = ¬ Contains pairs x
Tells pairs x (Some number) = slice_get pairs number ≡ Some x

-- each place tells of its pair
pub record AreTold (shape : Shape) (pairs : List Pair) (numbers : List (Option ℕ)) : Type 0 where
  pub places : length numbers ≡ shape.lefts * shape.rights
  pub small : length numbers ≤ 2 ^ 20
  pub distinct : AreDistinct pairs
  pub fit : All (Fits shape) pairs
  pub told : (x : Pair) → Fits shape x →
      Tells pairs x (slice_index_or numbers (place_of shape x) None)
