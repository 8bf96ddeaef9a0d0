-- What the entry of a flow says.
use Rattle.std.specs.Prelude.{ℕ, List, map, length, nat_lt, if◌then◌else◌, Result, Ok, Err}
use Rattle.serde_json.specs.Data.{Data}
use Rattle.rela_json.specs.declared.error.LoadError.{LoadError}
use Rattle.rela_json.specs.declared.error.LoadError.TheVariants.{TooMany}
use Rattle.rela_json.specs.Results.{◌>>=◌}
use Rattle.rela_flows.specs.declared.predicate.FlowClass.{FlowClass}
use Rattle.rela_flows.specs.declared.prefix.Prefix.{Prefix}
use Rattle.rela_locations.specs.Network.{Network}
use Rattle.rela_snapshot.specs.declared.version.Version.{Version}
use Rattle.rela_snapshot.specs.declared.version.Version.TheVariants.{One, Two}
use Rattle.rela_snapshot.specs.Class.{class_of, new_name_of}
use Rattle.rela_snapshot.specs.Listed.{Listed}
use Rattle.rela_snapshot.specs.Named.{named_of}
use Rattle.rela_snapshot.specs.Numbered.{numbered_of}
use Rattle.rela_snapshot.specs.Version.{flow_rules}

-- a flow as a file lists it
pub record ListedFlow : Type 0 where
  pub class : FlowClass
  pub graph : Listed

abbrev pub listed_names : List ListedFlow → List (List ℕ)
listed_names flows = map (λ flow. flow.class.name) flows

-- the name of the flow after those of these names: its row is their number
unfoldable pub next_name_of : Version → List (List ℕ) → Data → Result (List ℕ) LoadError
next_name_of version names d =
    if nat_lt (length names) 10000 then new_name_of (flow_rules version) names (length names) d
    else Err (TooMany 10000)

-- the graph of a flow
unfoldable pub graph_of : Network → Version → ℕ → Data → Result Listed LoadError
graph_of network One row d = numbered_of network row d
graph_of network Two row d = named_of network row d

-- the flow of this name and these prefixes
unfoldable pub flow_of : Network → Version → ℕ → List ℕ → Prefix → Prefix → Data →
    Result ListedFlow LoadError
flow_of network version row name dst src d = do
  class ← class_of (flow_rules version) row d
  graph ← graph_of network version row d
  Ok (record { class = record { name = name; dst = dst; src = src; class = class }; graph = graph })
