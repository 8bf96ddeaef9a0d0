-- What the four inputs of a change give: what is loaded, or the first refusal in the order in which they are read.
use Rattle.std.specs.Prelude.{◌≡◌, ◌≢◌, ℕ, List, AllPairs, map, Result, Ok}
use Rattle.rela_locations.specs.Network.{Network, alphabet_of}
use Rattle.rela_snapshot.specs.Steps.{Is, ◌>>=◌}
use Rattle.rela_snapshot.specs.declared.pairing.FlowPair.{FlowPair}
use Rattle.rela_inputs.specs.Inputs.{Gives, ReadsNetwork}
use Rattle.rela_inputs.specs.Paired.{GivesPairs}
use Rattle.rela_same_flows.specs.SameFlows.{SamePairs}
use Rattle.rela_inputs.specs.Specified.{Specified, ReadsChecks, SameSpecified, specified_by}
use Rattle.rela_inputs.specs.declared.change.Loaded as declared
use Rattle.rela_inputs.specs.declared.refusal.Refusal.{Refusal}

-- the locations, the flows before and after the change side by side, and the checks
pub record Loaded : Type 0 where
  pub network : Network
  pub pairs : List FlowPair
  pub specified : Specified

-- from steps that give the bytes of each input
unfoldable pub Loads : (before after locations spec : Result (List ℕ) Refusal → Type 0) →
    Result Loaded Refusal → Type 0
Loads before after locations spec = do
  network ← Gives locations ReadsNetwork
  pairs ← GivesPairs network before after
  specified ← Gives spec (ReadsChecks network)
  Is (Ok (record { network = network; pairs = pairs; specified = specified }))

-- no file can tell the two apart
pub record SameLoaded (x y : Loaded) : Type 0 where
  pub network : x.network ≡ y.network
  pub pairs : SamePairs x.pairs y.pairs
  pub specified : SameSpecified x.specified y.specified

-- the names of the locations at the checks' level
abbrev pub names_of : Loaded → List (List ℕ)
names_of loaded = alphabet_of loaded.specified.level loaded.network

-- no two checks have one name, and no two flows
pub record NamesDiffer (loaded : Loaded) : Type 0 where
  pub checks : AllPairs (λ a b. a ≢ b) (map (λ check. check.name) loaded.specified.checks)
  pub flows : AllPairs (λ a b. a ≢ b) (map (λ pair. pair.class.name) loaded.pairs)

-- what was loaded, as data
abbrev pub loaded_by : declared.Loaded → Loaded
loaded_by loaded = record {
  network = loaded.locations;
  pairs = loaded.pairs.items;
  specified = specified_by loaded.asked;
}
