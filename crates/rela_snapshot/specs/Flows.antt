-- The flows that a file lists, or the first fault among them.
use Rattle.std.specs.Prelude.{◌≡◌, ℕ, List, [], ◌∷◌, ◌++◌, length, Some, Result, Ok}
use Rattle.std.specs.List.{AllZip}
use Rattle.serde_json.specs.Data.{Data}
use Rattle.rela_json.specs.declared.error.LoadError.{LoadError}
use Rattle.rela_flows.specs.declared.prefix.Prefix.{Prefix}
use Rattle.rela_locations.specs.Network.{Network}
use Rattle.rela_snapshot.specs.declared.snapshot.Flow.{Flow}
use Rattle.rela_snapshot.specs.declared.version.Version.{Version}
use Rattle.rela_snapshot.specs.Class.{IsPrefixOf, dst_text_of, family_in, family_of, src_text_of}
use Rattle.rela_snapshot.specs.FlowEntry.{ListedFlow, listed_names, next_name_of, flow_of}
use Rattle.rela_snapshot.specs.Listed.{IsGraphOf}
use Rattle.rela_snapshot.specs.Steps.{Is, ◌>>=◌}
use Rattle.rela_snapshot.specs.Version.{flow_rules}

-- where a flow goes
unfoldable pub IsDst : Version → ℕ → Data → Result Prefix LoadError → Type 0
IsDst version row d = do
  text ← Is (dst_text_of (flow_rules version) row d)
  IsPrefixOf (family_in version) row text

-- where it comes from, which is of the same family
unfoldable pub IsSrc : Version → ℕ → Prefix → Data → Result Prefix LoadError → Type 0
IsSrc version row dst d = do
  text ← Is (src_text_of (flow_rules version) row (family_of dst) d)
  IsPrefixOf (Some (family_of dst)) row text

-- the flow of a name
unfoldable pub IsFlowNamed : Network → Version → ℕ → List ℕ → Data →
    Result ListedFlow LoadError → Type 0
IsFlowNamed network version row name d = do
  dst ← IsDst version row d
  src ← IsSrc version row dst d
  Is (flow_of network version row name dst src d)

-- the flow after those of these names: its row is their number
unfoldable pub IsFlow : Network → Version → List (List ℕ) → Data →
    Result ListedFlow LoadError → Type 0
IsFlow network version names d = do
  name ← Is (next_name_of version names d)
  IsFlowNamed network version (length names) name d

-- the earlier flows, and then those of these entries
unfoldable pub AreFlows : Network → Version → List ListedFlow → List Data →
    Result (List ListedFlow) LoadError → Type 0
AreFlows network version earlier [] = Is (Ok earlier)
AreFlows network version earlier (d ∷ ds) = do
  flow ← IsFlow network version (listed_names earlier) d
  AreFlows network version (earlier ++ flow ∷ []) ds

-- a flow of a listed class, with the graph that is listed
pub record IsFlowOf (listed : ListedFlow) (flow : Flow) : Type 0 where
  pub class : flow.class ≡ listed.class
  pub graph : IsGraphOf listed.graph flow.graph

-- the same of each of a list
abbrev pub AreFlowsOf : List ListedFlow → List Flow → Type 0
AreFlowsOf = AllZip IsFlowOf
