-- Shapes of flows that meet checks: a flow of such a shape meets the check too.
use Rattle.std.specs.Prelude.{ℕ, ◌==◌, ◌&&◌, Bool, IsTrue, List, slice_get, IsSomeAnd}
use Rattle.std.specs.HashSet.{HashSet, contains}
use Rattle.rela_engine.specs.Compilation.{Compilation}
use Rattle.rela_report.specs.declared.rows.Row.TheVariants.{Compliant}
use Rattle.rela_shape.specs.Shape.{IsShape, same_shape}
use Rattle.rela_shape.specs.declared.shape.Shape.{Shape}
use Rattle.rela_snapshot.specs.PairsLocated.{IsPairLocated}
use Rattle.rela_snapshot.specs.declared.pairing.FlowPair.{FlowPair}
use Rattle.rela_rows.specs.Sharing.{IsVerdict}

-- some flow whose shape is equal to this one is compliant; `names` are the locations of the check's level, at which its
-- nodes stand
pub record IsMetShape (names : List (List ℕ)) (by : Compilation) (shape : Shape) : Type 0 where
  pub pair : FlowPair
  pub own : Shape
  pub located : IsPairLocated names by.check.level pair
  pub shaped : IsShape by.blocks by.check.level pair own
  pub same : IsTrue (same_shape own shape)
  pub compliant : IsVerdict names by pair Compliant

-- whether two have one number, and equal shapes
abbrev pub same_entry : ℕ × Shape → ℕ × Shape → Bool
same_entry x y = (x.0 == y.0) && same_shape x.1 y.1

-- each shape stands with the number of a check that some flow of the shape meets
abbrev pub AreMetShapes : {S : Type 0} → List (List ℕ) → List Compilation →
    HashSet (ℕ × Shape) S → Type 0
AreMetShapes names compiled met =
    (check : ℕ) (shape : Shape) → IsTrue (contains same_entry met (check, shape)) →
    IsSomeAnd (slice_get compiled check) (λ by. IsMetShape names by shape)
