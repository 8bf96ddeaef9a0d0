-- What devices do with the packets to an address. Only the crate's private clauses cite it.
use Rattle.std.specs.Prelude.{◌≡◌, ℕ, ◌<◌, List, length, map, slice_get, Option, Some, None, IfSome}
use Rattle.std.specs.List.{All, AllZip}
use Rattle.rela_names.specs.declared.level.Level.TheVariants as level
use Rattle.rela_locations.specs.Network.{Network, location_of}
use Rattle.rela_prefixes.specs.Longest.{Longest}
use Rattle.rela_tables.specs.Distinct.{AreTables}
use Rattle.rela_tables.specs.Forwarding.{Forwarding, routes_of}
use Rattle.rela_tables.specs.declared.route.Route.{Route}
use Rattle.rela_fib.specs.Graph.{ArePlacesOf, Graph, chosen_hops, edges_from, is_delivered, is_dropped, numbers_from}
use Rattle.rela_fib.specs.Prefixes.{prefixes_of}
use Rattle.rela_fib.specs.declared.device.Device.{Device}
use Rattle.rela_fib.specs.declared.devices.Devices.{Devices}
use Rattle.rela_fib.specs.declared.step.Step.{Step}

-- the step is what is done by this choice
pub record IsStep (nodes : List ℕ) (choice : Option Route) (step : Step) : Type 0 where
  pub next : ArePlacesOf nodes (chosen_hops choice) step.next
  pub delivered : step.is_delivered ≡ is_delivered choice
  pub dropped : step.is_dropped ≡ is_dropped choice

-- the steps are what is done by each of these routes
abbrev pub AreStepsBy : List ℕ → List Route → List Step → Type 0
AreStepsBy nodes routes steps = AllZip (λ route step. IsStep nodes (Some route) step) routes steps

-- the device has these routes
pub record IsDevice (nodes : List ℕ) (routes : List Route) (device : Device) : Type 0 where
  pub prefixes : device.prefixes ≡ prefixes_of routes
  pub steps : AreStepsBy nodes routes device.steps.items
  pub otherwise : IsStep nodes None device.otherwise

-- the step by the route at a place, or without a route
unfoldable pub IsStepBy : Device → Option ℕ → Step → Type 0
IsStepBy device None step = step ≡ device.otherwise
IsStepBy device (Some place) step = slice_get device.steps.items place ≡ Some step

-- the step by the route of the longest prefix that holds the address
pub record IsStepAt (device : Device) (a : ℕ) (step : Step) : Type 0 where
  pub place : Option ℕ
  pub longest : Longest device.prefixes a place
  pub step_is : IsStepBy device place step

-- there is a step for each prefix
abbrev pub AreMatched : List Device → Type 0
AreMatched devices = All (λ device. length device.prefixes ≡ length device.steps.items) devices

pub record IsMatched (d : Devices) : Type 0 where
  pub devices : AreMatched d.devices.items
  pub of_nodes : All (λ place. place < length d.devices.items) d.of_nodes.items

-- the step of the device at a place
pub record IsStepOf (d : Devices) (a place : ℕ) (step : Step) : Type 0 where
  pub device : Device
  pub at : slice_get d.devices.items place ≡ Some device
  pub step_is : IsStepAt device a step

-- what the device of each node does
abbrev pub AreStepsAt : Devices → ℕ → List Step → Type 0
AreStepsAt d a steps = AllZip (λ place step. IsStepOf d a place step) d.of_nodes.items steps

-- each device chooses by the longest prefix that holds the address
abbrev pub AreChoices : List Device → ℕ → List (Option ℕ) → Type 0
AreChoices devices a choices = AllZip (λ device choice. Longest device.prefixes a choice)
    devices choices

-- the device has a step for the choice
abbrev pub IsWithin : Device → Option ℕ → Type 0
IsWithin device choice = IfSome choice (λ place. place < length device.steps.items)

abbrev pub AreWithin : List Device → List (Option ℕ) → Type 0
AreWithin devices choices = AllZip IsWithin devices choices

-- the step of the device at a place, by the choice at that place
pub record IsStepWith (devices : List Device) (choices : List (Option ℕ)) (place : ℕ)
    (step : Step) : Type 0 where
  pub device : Device
  pub choice : Option ℕ
  pub at : slice_get devices place ≡ Some device
  pub chosen : slice_get choices place ≡ Some choice
  pub step_is : IsStepBy device choice step

-- what the device of each node does, where the devices make these choices
abbrev pub AreStepsWith : Devices → List (Option ℕ) → List Step → Type 0
AreStepsWith d choices steps = AllZip (λ place step. IsStepWith d.devices.items choices place step)
    d.of_nodes.items steps

-- the device of each node stands at its place among these
abbrev pub ArePlaced : Network → List ℕ → List ℕ → List ℕ → Type 0
ArePlaced network nodes names places = AllZip (λ node place. slice_get names place
    ≡ Some (location_of level.Device network node)) nodes places

-- the devices of these symbols
abbrev pub AreDevicesAt : Forwarding → List ℕ → List ℕ → List Device → Type 0
AreDevicesAt f nodes names devices = AllZip (λ name device.
    IsDevice nodes (routes_of f name) device) names devices

-- the devices of these nodes, by tables each of a device of its own
pub record AreDevices (network : Network) (f : Forwarding) (nodes : List ℕ)
    (d : Devices) : Type 0 where
  pub tables : AreTables f.tables
  pub names : List ℕ
  pub devices : AreDevicesAt f nodes names d.devices.items
  pub placed : ArePlaced network nodes names d.of_nodes.items

-- the graph where the devices of the nodes take these steps
abbrev pub graph_of : List Step → Graph
graph_of steps = record {
  edges = edges_from 0 (map (λ (s : Step). s.next) steps);
  delivered = numbers_from (λ (s : Step). s.is_delivered) 0 steps;
  dropped = numbers_from (λ (s : Step). s.is_dropped) 0 steps;
}
