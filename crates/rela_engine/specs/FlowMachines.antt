-- The scenes in which terms are read for flows, and the machines that are made in them, each told by plain data.
use Rattle.std.specs.Prelude.{ℕ, Bool, true, false, List, [], Option}
use Rattle.rela_build.specs.Lettering.{Lettering}
use Rattle.rela_build.specs.Made.{Leads, LeadsR}
use Rattle.rela_build.specs.PathSets.{Paths, scene_of}
use Rattle.rela_nfa.specs.Automaton.{Automaton}
use Rattle.rela_rir.specs.Machines.{Machines, Scenes, Settings}
use Rattle.rela_trans.specs.Machine.{Machine}
use Rattle.rela_translate.specs.Checked.{Checked}
use Rattle.rela_blocks.specs.FlowName.{FlowName, paths_at}
use Rattle.rela_blocks.specs.Scenes.{lettering_of, scene}

-- a scene is told by letters, and by a flow where there are paths
abbrev pub SceneName : Type 0
SceneName = Lettering × Option FlowName

abbrev pub flow_scenes : Scenes
flow_scenes = record { Name = SceneName; of = λ at. scene_of at.0 (paths_at at.1) }

-- likewise in what terms are read there
abbrev pub flow_settings : Settings
flow_settings = record { Name = SceneName; of = λ at. (scene_of at.0 (paths_at at.1)).setting }

-- automata and transducers that read symbols by their blocks; no table of theirs has to be exact
abbrev pub flow_machines : Machines
flow_machines = record {
  scene = flow_scenes;
  Automaton = List ℕ × Automaton;
  reach = λ a. Leads a.0 a.1;
  Transducer = List ℕ × Machine;
  reach_pair = λ t. LeadsR t.0 t.1;
  exactly = ⊥;
}

-- the check's scene of the flow, or that with no paths; which blocks are letters doesn't matter there
abbrev pub check_name : Checked → ℕ → Option FlowName → SceneName
check_name check locations flow = (lettering_of check locations [], flow)

-- one of two path sets of a flow
abbrev pub one_of : Paths → Paths → Bool → Paths
one_of p q true = p
one_of p q false = q

-- the scenes of checks for two path sets, each told by the check, the number of locations, and which of the two
abbrev pub two_scenes : Paths → Paths → Scenes
two_scenes p q = record {
  Name = Checked × ℕ × Bool;
  of = λ at. scene at.0 at.1 (one_of p q at.2);
}
