-- What a snapshot file stands for in a network: its flows, or the first fault of a walk of the file.
use Rattle.std.specs.Prelude.{ℕ, List, [], Result}
use Rattle.serde_json.specs.Data.{Data}
use Rattle.rela_json.specs.declared.error.LoadError.{LoadError}
use Rattle.rela_json.specs.declared.error.LoadError.TheVariants.{NotJson}
use Rattle.rela_json.specs.Reading.{reading}
use Rattle.rela_json.specs.Results.{ok_or}
use Rattle.rela_locations.specs.Network.{Network}
use Rattle.rela_snapshot.specs.Contents.{contents_of}
use Rattle.rela_snapshot.specs.FlowEntry.{ListedFlow}
use Rattle.rela_snapshot.specs.Flows.{AreFlows}
use Rattle.rela_snapshot.specs.Steps.{Is, ◌>>=◌}

unfoldable pub IsSnapshot : Network → Data → Result (List ListedFlow) LoadError → Type 0
IsSnapshot network d = do
  contents ← Is (contents_of d)
  AreFlows network contents.0 [] contents.1

unfoldable pub Load : Network → List ℕ → Result (List ListedFlow) LoadError → Type 0
Load network bytes = do
  d ← Is (ok_or NotJson (reading bytes))
  IsSnapshot network d
