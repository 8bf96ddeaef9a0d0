-- What the bytes of an input give.
use Rattle.std.specs.Prelude.{◌≡◌, ℕ, ◌<◌, ◌≤◌, List, length, Option, Some, IfSome, Result, Ok, Err}
use Rattle.rela_io.specs.Held.{FilesByName}
use Rattle.rela_json.specs.declared.error.LoadError.{LoadError}
use Rattle.rela_locations.specs.Load as locations
use Rattle.rela_locations.specs.Network.{Network}
use Rattle.rela_snapshot.specs.FlowEntry.{ListedFlow}
use Rattle.rela_snapshot.specs.Flows.{AreFlowsOf}
use Rattle.rela_snapshot.specs.Load as snapshot
use Rattle.rela_snapshot.specs.Steps.{◌>>=◌}
use Rattle.rela_snapshot.specs.declared.snapshot.Flow.{Flow}
use Rattle.rela_tables.specs.Forwarding.{Forwarding}
use Rattle.rela_tables.specs.Load.{LoadTables}
use Rattle.rela_inputs.specs.Reading.{max_file_bytes}
use Rattle.rela_inputs.specs.declared.reading.Halt.{Halt}
use Rattle.rela_inputs.specs.declared.reading.Halt.TheVariants.{Memory}
use Rattle.rela_inputs.specs.declared.refusal.Input.{Input}
use Rattle.rela_inputs.specs.declared.refusal.Input.TheVariants.{Locations}
use Rattle.rela_inputs.specs.declared.refusal.Reason.TheVariants.{TooLong, Load}
use Rattle.rela_inputs.specs.declared.refusal.Refusal.{Refusal}

-- where the files are told, this one has these bytes
abbrev pub IsTold : Option FilesByName → List ℕ → List ℕ → Type 0
IsTold holds name bytes = IfSome holds (λ files. files name ≡ Some bytes)

-- the file has too many bytes, and the input that it stands for is refused for it
unfoldable pub IsTooLong : Option FilesByName → List ℕ → Input → Refusal → Type 0
IsTooLong holds name input refusal =
    (bytes : List ℕ) × IsTold holds name bytes × (max_file_bytes < length bytes)
    × (refusal ≡ record { input = input; reason = TooLong })

-- the file has these bytes, and they aren't too many
unfoldable pub HasBytes : Option FilesByName → List ℕ → List ℕ → Type 0
HasBytes holds name bytes = IsTold holds name bytes × (length bytes ≤ max_file_bytes)

-- the bytes of the file of this name, or the refusal of the input that it stands for
abbrev pub BytesOf : Option FilesByName → List ℕ → Input → Result (List ℕ) Refusal → Type 0
BytesOf holds name input (Ok bytes) = HasBytes holds name bytes
BytesOf holds name input (Err refusal) = IsTooLong holds name input refusal

-- what the bytes that a step gives are read as, or the refusal of either
unfoldable pub Gives : {A : Type 0} → (Result (List ℕ) Refusal → Type 0) →
    (List ℕ → Result A Refusal → Type 0) → Result A Refusal → Type 0
Gives Bytes Reads = do
  bytes ← Bytes
  Reads bytes

-- what a decoder answers of an input
abbrev pub load_of : {A : Type 0} → Input → Result A LoadError → Result A Refusal
load_of input (Ok x) = Ok x
load_of input (Err e) = Err (record { input = input; reason = Load e })

abbrev pub ReadsNetwork : List ℕ → Result Network Refusal → Type 0
ReadsNetwork bytes r = r ≡ load_of Locations (locations.Load bytes)

-- the flows that are listed, or the refusal of the input
abbrev pub AreReadFlows : Input → Result (List ListedFlow) LoadError →
    Result (List Flow) Refusal → Type 0
AreReadFlows input (Ok listed) (Ok flows) = AreFlowsOf listed flows
AreReadFlows input (Ok listed) (Err refusal) = ⊥
AreReadFlows input (Err e) (Ok flows) = ⊥
AreReadFlows input (Err e) (Err refusal) = refusal ≡ record { input = input; reason = Load e }

abbrev pub ReadsFlows : Input → Network → List ℕ → Result (List Flow) Refusal → Type 0
ReadsFlows input network bytes r = (x : Result (List ListedFlow) LoadError)
    × snapshot.Load network bytes x × AreReadFlows input x r

-- the flows that are listed, unless memory ran out
abbrev pub IsListedAs : List ListedFlow → Result (List Flow) Halt → Type 0
IsListedAs listed (Ok flows) = AreFlowsOf listed flows
IsListedAs listed (Err halt) = halt ≡ Memory

-- the tables that are listed, or the refusal of the input
abbrev pub ReadsTables : Input → Network → List ℕ → Result Forwarding Refusal → Type 0
ReadsTables input network bytes r = (x : Result Forwarding LoadError) × LoadTables network bytes x
    × (r ≡ load_of input x)
