-- The paths of a flow before and after a change, told by a name, which is plain data.
use Rattle.std.specs.Prelude.{ℕ, List, None, Option, Some}
use Rattle.rela_build.specs.PathSets.{Paths, no_paths}
use Rattle.rela_graph.specs.Topology.{Topology}
use Rattle.rela_names.specs.declared.level.Level.{Level}
use Rattle.rela_blocks.specs.Scenes.{paths_of}

-- a level, the names of its locations, and the graphs before and after the change
pub record FlowName : Type 0 where
  pub level : Level
  pub names : List (List ℕ)
  pub before : Topology
  pub after : Topology

-- the paths of the flow
abbrev pub flow_paths : FlowName → Paths
flow_paths flow = paths_of flow.level flow.names flow.before flow.after

-- those of a flow, and none at all where there is none
abbrev pub paths_at : Option FlowName → Paths
paths_at None = no_paths
paths_at (Some flow) = flow_paths flow
