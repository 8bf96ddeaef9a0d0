-- The scenes and the machines of rows, each told by a name, which is plain data.
use Rattle.std.specs.Prelude.{ℕ, None, Option, Some, List, length}
use Rattle.rela_blocks.specs.FlowName.{FlowName, paths_at}
use Rattle.rela_blocks.specs.Scenes.{scene}
use Rattle.rela_build.specs.Made.{Leads, LeadsR}
use Rattle.rela_build.specs.PathSets.{PathFamily}
use Rattle.rela_nfa.specs.Automaton.{Automaton}
use Rattle.rela_rir.specs.Machines.{Machines, Scenes, Settings}
use Rattle.rela_trans.specs.Machine.{Machine}
use Rattle.rela_translate.specs.Checked.{Checked}
use Rattle.rela_cert.specs.declared.row.Row.{Row}

-- a check, the number of locations of its level, and a flow or none
pub record RowName : Type 0 where
  pub check : Checked
  pub locations : ℕ
  pub flow : Option FlowName

-- the name of a row's scene
abbrev pub name_of : Row → RowName
name_of row = record {
  check = row.check.now;
  locations = length row.alphabet.now;
  flow = Some (record {
    level = row.check.now.level;
    names = row.alphabet.now;
    before = row.pair.now.before;
    after = row.pair.now.after;
  });
}

-- the name of the scene of a check that has no paths
abbrev pub no_flow : Checked → ℕ → RowName
no_flow check locations = record { check = check; locations = locations; flow = None }

-- the paths of a flow or of none
abbrev pub row_paths : PathFamily
row_paths = record { Name = Option FlowName; of = paths_at }

-- the scene of the check for these paths
abbrev pub row_scenes : Scenes
row_scenes = record {
  Name = RowName;
  of = λ row. scene row.check row.locations (paths_at row.flow);
}

abbrev pub row_settings : Settings
row_settings = record { Name = RowName; of = λ row. (row_scenes.of row).setting }

-- Automata and transducers are told by the blocks that are their letters, and themselves.
abbrev pub row_machines : Machines
row_machines = record {
  scene = row_scenes;
  Automaton = List ℕ × Automaton;
  reach = λ a. Leads a.0 a.1;
  Transducer = List ℕ × Machine;
  reach_pair = λ t. LeadsR t.0 t.1;
  exactly = Unit {0};
}
