-- The paths of graphs as path sets, and the automata that read them by blocks, each told by a name.
use Rattle.std.specs.Prelude.{ℕ, List, []}
use Rattle.rela_build.specs.Made.{Leads}
use Rattle.rela_build.specs.PathSets.{scene_of}
use Rattle.rela_graph.specs.Topology.{Topology}
use Rattle.rela_names.specs.declared.level.Level.{Level}
use Rattle.rela_nfa.specs.Automaton.{Automaton}
use Rattle.rela_rir.specs.Machines.{Machines}
use Rattle.rela_blocks.specs.Scenes.{paths_of}

-- a graph at a level, whose locations have these names
pub record GraphName : Type 0 where
  pub level : Level
  pub names : List (List ℕ)
  pub graph : Topology

-- The graph's paths are those before a change and those after it; there are no classes and no markers. An automaton
-- goes by its blocks.
abbrev pub graph_paths : Machines
graph_paths = record {
  scene = record {
    Name = GraphName;
    of = λ name. scene_of
        (record { classes = []; path_symbols = 0; markers = 0; blocks = [] })
        (paths_of name.level name.names name.graph name.graph);
  };
  Automaton = List ℕ × Automaton;
  reach = λ a. Leads a.0 a.1;
  Transducer = Unit {0};
  reach_pair = λ _ _ _ _. Unit {0};
  exactly = Unit {0};
}
