-- What terms are built into, by names that are plain data: a scene by its letters and a name of its path sets, and a
-- machine by the blocks that it reads and itself.
use Rattle.std.specs.Prelude.{ℕ, List}
use Rattle.rela_nfa.specs.Automaton.{Automaton}
use Rattle.rela_rir.specs.Machines.{Machines}
use Rattle.rela_trans.specs.Machine.{Machine}
use Rattle.rela_build.specs.Lettering.{Lettering}
use Rattle.rela_build.specs.Made.{Leads, LeadsR}
use Rattle.rela_build.specs.PathSets.{Paths, scene_of}

abbrev pub term_machines : Type 0 → (S : Type 0) → (S → Paths) → Machines
term_machines exactly S paths = record {
  scene = record { Name = Lettering × S; of = λ at. scene_of at.0 (paths at.1) };
  Automaton = List ℕ × Automaton;
  reach = λ a. Leads a.0 a.1;
  Transducer = List ℕ × Machine;
  reach_pair = λ t. LeadsR t.0 t.1;
  exactly = exactly;
}
