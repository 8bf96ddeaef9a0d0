-- What the terms of a check's two relations and of its two images mean.
use Rattle.std.proofs.Common.{ℕ, ◌↔◌, List}
use Rattle.rela_blocks.specs.Scenes.{after_image, before_image, scene}
use Rattle.rela_build.specs.PathSets.{Paths, no_paths}
use Rattle.rela_rir.specs.Meaning.{In, InR}
use Rattle.rela_translate.specs.Checked.{Checked}
use Rattle.rela_translate.specs.Terms.{after_of, before_of}
use Rattle.rela_translate.specs.Verdict.{AfterImage, BeforeImage}
use Rattle.rela_translate.specs.Zones.{After, Before}

-- the pairs of the relations, where there are no paths
pub record RelationsMean (check : Checked) (n : ℕ) : Type 0 where
  pub before : (u v : List ℕ) → InR (scene check n no_paths).setting (before_of n check.body) u v ↔ Before check.classes n check.body u v
  pub after : (u v : List ℕ) → InR (scene check n no_paths).setting (after_of n check.body) u v ↔ After check.classes n check.body u v

-- the words of the images of these paths
pub record ImagesMean (check : Checked) (n : ℕ) (paths : Paths) : Type 0 where
  pub before : (w : List ℕ) → In (scene check n paths).setting (before_image check n) w ↔ BeforeImage check n paths.pre w
  pub after : (w : List ℕ) → In (scene check n paths).setting (after_image check n) w ↔ AfterImage check n paths.post w
