-- The flows of two snapshots side by side, joined by their names. In a snapshot each flow has a name of its own.
use Rattle.std.specs.Prelude.{◌≡◌, ◌≢◌, ℕ, List, [], ◌++◌, map, filter, not, take, find, slice_get, All, Option, Some, None, IfSome, Result, Ok, Err}
use Rattle.std.specs.Str.{bytes_eq}
use Rattle.rela_flows.specs.declared.predicate.FlowClass.{FlowClass}
use Rattle.rela_graph.specs.Topology.{Topology}
use Rattle.rela_snapshot.specs.declared.snapshot.Flow.{Flow}
use Rattle.rela_snapshot.specs.declared.pairing.FlowPair.{FlowPair}
use Rattle.rela_snapshot.specs.declared.pairing.PairError.{PairError}
use Rattle.rela_snapshot.specs.declared.pairing.PairError.TheVariants.{FlowDiffers, Memory}
use Rattle.rela_snapshot.specs.Names.{has_name}
use Rattle.rela_snapshot.specs.SnapshotFlows.{names_of}

-- the flow of this name, if there is one
abbrev pub flow_named : List ℕ → List Flow → Option Flow
flow_named name flows = find (λ flow. bytes_eq name flow.class.name) flows

abbrev pub no_nodes : Topology
no_nodes = record { nodes = []; edges = []; starts = []; delivered = []; dropped = [] }

abbrev pub graph_or_none : Option Flow → Topology
graph_or_none None = no_nodes
graph_or_none (Some flow) = flow.graph

-- a flow of the first snapshot beside one of the second, or beside the graph without nodes
abbrev pub pair_with : Option Flow → Flow → FlowPair
pair_with partner flow = record {
  class = flow.class;
  before = flow.graph;
  after = graph_or_none partner;
}

abbrev pub pair_before : List Flow → Flow → FlowPair
pair_before after flow = pair_with (flow_named flow.class.name after) flow

-- a flow of the second snapshot alone
abbrev pub pair_after : Flow → FlowPair
pair_after flow = record { class = flow.class; before = no_nodes; after = flow.graph }

-- the flows whose names are not among these
abbrev pub flows_without : List (List ℕ) → List Flow → List Flow
flows_without names flows = filter (λ flow. not (has_name names flow.class.name)) flows

-- the flows of the first snapshot in order, and then those that only the second has
abbrev pub pairs_of : List Flow → List Flow → List FlowPair
pairs_of before after = map (pair_before after) before
    ++ map pair_after (flows_without (names_of before) after)

-- one flow has the prefixes and the class of the other, if there is one
abbrev pub AgreesWith : Option Flow → Flow → Type 0
AgreesWith partner flow = IfSome partner (λ other. flow.class ≡ other.class)

abbrev pub Agrees : List Flow → Flow → Type 0
Agrees after flow = AgreesWith (flow_named flow.class.name after) flow

-- the flow in this row of the first snapshot is the first that differs from that of its name in the second
pub record IsFirstDifference (before after : List Flow) (row : ℕ)
    (first second : FlowClass) : Type 0 where
  pub flow : Flow
  pub other : Flow
  pub at : slice_get before row ≡ Some flow
  pub named : flow_named flow.class.name after ≡ Some other
  pub before_class : first ≡ flow.class
  pub after_class : second ≡ other.class
  pub differs : flow.class ≢ other.class
  pub earlier_agree : All (Agrees after) (take row before)

-- what pairing answers
unfoldable pub Pairing : List Flow → List Flow → Result (List FlowPair) PairError → Type 0
Pairing before after (Ok pairs) = All (Agrees after) before × (pairs ≡ pairs_of before after)
Pairing before after (Err (FlowDiffers row first second)) =
    IsFirstDifference before after row first second
Pairing before after (Err Memory) = ⊥
