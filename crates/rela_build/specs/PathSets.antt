-- The two path sets, and the scene in which terms are read.
use Rattle.std.specs.Prelude.{ℕ, List}
use Rattle.rela_rir.specs.Places.{Scene, Arrivals}
use Rattle.rela_build.specs.Lettering.{Lettering}

-- the words of the two path sets, and what reaches their places
pub record Paths : Type 1 where
  pub pre : List ℕ → Type 0
  pub post : List ℕ → Type 0
  pub at_pre : Arrivals
  pub at_post : Arrivals

-- pairs of path sets, each told by a name; what a name stands for is given to a law
pub record PathFamily : Type 1 where
  pub Name : Type 0
  pub of : Name → Paths

-- no paths at all
abbrev pub no_paths : Paths
no_paths = record {
  pre = λ w. ⊥;
  post = λ w. ⊥;
  at_pre = record { at_node = λ n w. ⊥; at_end = λ w. ⊥ };
  at_post = record { at_node = λ n w. ⊥; at_end = λ w. ⊥ };
}

-- what terms are read in: the class table and the symbols of the letters, and the two path sets
abbrev pub scene_of : Lettering → Paths → Scene
scene_of l paths = record {
  setting = record {
    classes = l.classes;
    path_symbols = l.path_symbols;
    pre = paths.pre;
    post = paths.post;
  };
  markers = l.markers;
  pre = paths.at_pre;
  post = paths.at_post;
}
