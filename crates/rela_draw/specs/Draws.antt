-- What the three inputs of `fib` give: the snapshot of the one table file, cut by the routes of both, or the first refusal
-- in the order in which they are read.
use Rattle.std.specs.Prelude.{◌≡◌, ℕ, List, Option, Result, Ok, Err}
use Rattle.rela_fib.specs.Loading.{LoadsAs}
use Rattle.rela_fib.specs.Snapshot.{IsSnapshotOf, IsTooLong, IsTooMany}
use Rattle.rela_fib.specs.declared.error.FibError.{FibError}
use Rattle.rela_fib.specs.declared.error.FibError.TheVariants as fib
use Rattle.rela_io.specs.Held.{FilesByName}
use Rattle.rela_locations.specs.Network.{Network}
use Rattle.rela_snapshot.specs.Steps.{◌>>=◌}
use Rattle.rela_tables.specs.Forwarding.{Forwarding}
use Rattle.rela_inputs.specs.Answer.{Answer}
use Rattle.rela_inputs.specs.Inputs.{BytesOf, Gives, ReadsNetwork, ReadsTables}
use Rattle.rela_inputs.specs.declared.refusal.Input.TheVariants.{Locations, Tables, Other}
use Rattle.rela_inputs.specs.declared.refusal.Reason.TheVariants.{Snapshot}
use Rattle.rela_inputs.specs.declared.refusal.Refusal.{Refusal}

-- the text of the snapshot, which loads as just the flows that are drawn, or what there is too much of
abbrev pub IsDrawnAs : Network → Forwarding → Forwarding → Result (List ℕ) FibError → Type 0
IsDrawnAs network tables other (Ok text) =
    IsSnapshotOf network tables other text × LoadsAs network tables other text
    × (¬ IsTooMany network tables other) × (¬ IsTooLong network tables other)
IsDrawnAs network tables other (Err fib.TooMany) = IsTooMany network tables other
IsDrawnAs network tables other (Err fib.TooLong) = IsTooLong network tables other
    × (¬ IsTooMany network tables other)
IsDrawnAs network tables other (Err fib.Memory) = ⊥

abbrev pub drawing_of : Result (List ℕ) FibError → Result Answer Refusal
drawing_of (Ok text) = Ok (record { text = text; status = 0 })
drawing_of (Err e) = Err (record { input = Tables; reason = Snapshot e })

unfoldable pub IsDrawing : Network → Forwarding → Forwarding → Result Answer Refusal → Type 0
IsDrawing network tables other r = (x : Result (List ℕ) FibError) × IsDrawnAs network tables other x
    × (r ≡ drawing_of x)

-- over a network that is loaded already
abbrev pub DrawsOver : Option FilesByName → (tables other : List ℕ) → Network →
    Result Answer Refusal → Type 0
DrawsOver holds tables other network = do
  first ← Gives (BytesOf holds tables Tables) (ReadsTables Tables network)
  second ← Gives (BytesOf holds other Other) (ReadsTables Other network)
  IsDrawing network first second

unfoldable pub Draws : Option FilesByName → (tables other locations : List ℕ) →
    Result Answer Refusal → Type 0
Draws holds tables other locations = do
  network ← Gives (BytesOf holds locations Locations) ReadsNetwork
  DrawsOver holds tables other network

-- two snapshots of the same tables
abbrev pub SameDrawings : Answer → Answer → Type 0
SameDrawings x y = x.status ≡ y.status
