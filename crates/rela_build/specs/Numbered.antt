-- Pairs of states, numbered by where they stand in a list, as the states of what is built of two machines.
use Rattle.std.specs.Prelude.{◌≡◌, ℕ, ◌<◌, ◌↔◌, List, length, Some, slice_get, Contains}
use Rattle.rela_pairs.specs.Reachable.{AreDistinct}
use Rattle.rela_pairs.specs.declared.pair.Pair.{Pair}

abbrev pub two_of : Pair → ℕ × ℕ
two_of z = (z.left, z.right)

-- The pairs are distinct, and among them is each that is reached. The numbers with `r` are below how many they are, and
-- each is reached by just what reaches the pair at it.
pub record AreNumbered {I : Type 0} (pairs : List Pair) (reach : ℕ × ℕ → I → Type 0)
    (r : ℕ → I → Type 0) : Type 0 where
  pub distinct : AreDistinct pairs
  pub all : (z : Pair) (i : I) → reach (two_of z) i → Contains pairs z
  pub below : (k : ℕ) (i : I) → r k i → k < length pairs
  pub reached : (k : ℕ) (z : Pair) → slice_get pairs k ≡ Some z →
      (i : I) → r k i ↔ reach (two_of z) i
