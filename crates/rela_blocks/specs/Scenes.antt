-- In what the terms of a check are read: its class table, its symbols, and the paths before and after a change.
use Rattle.std.specs.Prelude.{ℕ, List, length}
use Rattle.rela_build.specs.Lettering.{Lettering}
use Rattle.rela_build.specs.PathSets.{Paths}
use Rattle.rela_graph.specs.Paths as graph
use Rattle.rela_graph.specs.Topology.{Topology}
use Rattle.rela_names.specs.declared.level.Level.{Level}
use Rattle.rela_rir.specs.Places.{Arrivals, Scene}
use Rattle.rela_rir.specs.declared.term.PathTerm.{PathTerm}
use Rattle.rela_rir.specs.declared.term.PathTerm.TheVariants.{Pre, Post, Image}
use Rattle.rela_translate.specs.Checked.{Checked, markers_of}
use Rattle.rela_translate.specs.Settings.{setting}
use Rattle.rela_translate.specs.Terms.{before_of, after_of}
use Rattle.rela_translate.specs.Zones.{path_symbols}

-- what reaches the places of a graph's paths: its nodes, and the end after `drop` or `loop`; `names` are the
-- locations of the level
abbrev pub arrivals_of : Level → List (List ℕ) → Topology → Arrivals
arrivals_of level names g = record {
  at_node = λ n w. graph.Arrives g (graph.locations g level) n w;
  at_end = graph.Undelivered g level names;
}

-- the paths of two graphs at a level, before and after a change
abbrev pub paths_of : Level → List (List ℕ) → Topology → Topology → Paths
paths_of level names before after = record {
  pre = graph.Paths before level names;
  post = graph.Paths after level names;
  at_pre = arrivals_of level names before;
  at_post = arrivals_of level names after;
}

-- the scene of a check, under a number of locations, for these paths
abbrev pub scene : Checked → ℕ → Paths → Scene
scene check locations paths = record {
  setting = setting check.classes locations paths.pre paths.post;
  markers = length (markers_of check.body);
  pre = paths.at_pre;
  post = paths.at_post;
}

-- the letters of the check's automata, where these are the blocks of its symbols
abbrev pub lettering_of : Checked → ℕ → List ℕ → Lettering
lettering_of check locations blocks = record {
  classes = check.classes;
  path_symbols = path_symbols locations;
  markers = length (markers_of check.body);
  blocks = blocks;
}

-- the terms of the check's two images
abbrev pub before_image : Checked → ℕ → PathTerm
before_image check locations = Image Pre (before_of locations check.body)

abbrev pub after_image : Checked → ℕ → PathTerm
after_image check locations = Image Post (after_of locations check.body)
