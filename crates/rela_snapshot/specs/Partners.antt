-- The flows of a second snapshot, put to those of their names in a first one.
use Rattle.std.specs.Prelude.{◌≡◌, ◌≢◌, ℕ, List, set, Option, Some, None}
use Rattle.rela_snapshot.specs.declared.snapshot.Flow.{Flow}
use Rattle.rela_snapshot.specs.declared.pairing.PairError.{PairError}
use Rattle.rela_snapshot.specs.declared.pairing.PairError.TheVariants.{FlowDiffers}

-- with the flow at this place, if there is one
abbrev pub with_flow : List (Option Flow) → Option ℕ → Flow → List (Option Flow)
with_flow found None flow = found
with_flow found (Some place) flow = set found place (Some flow)

-- a flow differs from its partner
abbrev pub IsDifference : ℕ → Flow → Option Flow → PairError → Type 0
IsDifference row flow partner e = (other : Flow) × (partner ≡ Some other)
    × (flow.class ≢ other.class) × (e ≡ FlowDiffers row flow.class other.class)
