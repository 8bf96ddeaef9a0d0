-- The scenes in which a check's two relations are made, and in which they are read.
use Rattle.std.specs.Prelude.{ℕ}
use Rattle.rela_blocks.specs.Scenes.{scene}
use Rattle.rela_build.specs.PathSets.{Paths, no_paths}
use Rattle.rela_rir.specs.Agreement.{SameWords, SameArrivals}
use Rattle.rela_rir.specs.Places.{Scene}
use Rattle.rela_translate.specs.Checked.{Checked}

-- both path sets have the same words in the two, and their places are reached by the same words
pub record SamePathSets (p q : Paths) : Type 0 where
  pub pre : SameWords p.pre q.pre
  pub post : SameWords p.post q.post
  pub pre_places : SameArrivals p.at_pre q.at_pre
  pub post_places : SameArrivals p.at_post q.at_post

-- the scene of a check with no paths, in which its two relations are made
abbrev pub bare_scene : Checked → ℕ → Scene
bare_scene check locations = scene check locations no_paths
