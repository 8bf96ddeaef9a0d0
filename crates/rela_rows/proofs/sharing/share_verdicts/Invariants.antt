use Rattle.rela_blocks.specs.Scenes.{paths_of}
use Rattle.rela_rows.proofs.sharing.share_verdicts.Given as goal

-- the paths of the flow that has a verdict
abbrev pub ghosts-carry_over-P-TwoPathSets : goal.ghosts-carry_over-P-TwoPathSets
ghosts-carry_over-P-TwoPathSets a = record { paths = paths_of a._by.now.check.level a._alphabet.now a._other.now.before a._other.now.after }

-- and those of the one that looks the same
abbrev pub ghosts-carry_over-Q-TwoPathSets : goal.ghosts-carry_over-Q-TwoPathSets
ghosts-carry_over-Q-TwoPathSets a = record { paths = paths_of a._by.now.check.level a._alphabet.now a._pair.now.before a._pair.now.after }
