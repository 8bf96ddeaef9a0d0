-- Which lists of flows a snapshot can hold.
use Rattle.std.specs.Prelude.{ℕ, ◌≤◌, List, length, map}
use Rattle.rela_snapshot.specs.declared.snapshot.Flow.{Flow}
use Rattle.rela_snapshot.specs.Names.{AreDistinct}

abbrev pub names_of : List Flow → List (List ℕ)
names_of flows = map (λ flow. flow.class.name) flows

-- at most 10,000, each of a name of its own
pub record AreSnapshotFlows (flows : List Flow) : Type 0 where
  pub few : length flows ≤ 10000
  pub distinct : AreDistinct (names_of flows)
