use Rattle.std.proofs.Common.{◌≡◌, ◌+◌, length, subst}
use Rattle.rela_labels.specs.Partition.{block_count}
use Rattle.rela_trans.specs.Composition.{Covers}
use Rattle.rela_build.specs.Lettering.{Lettering}
use Rattle.rela_build.specs.Reading.{read_by}
use Rattle.rela_build.proofs.Readings.{covered}
use Rattle.rela_build.proofs.letters.Letters.are_covered.Goals as goal

pub returns-clause-letters : goal.returns-clause-letters
returns-clause-letters c =
    subst (λ (l : Lettering). Covers (read_by l.blocks) (block_count l.blocks)) c.self.view_is (covered c.self.inside.blocks.now c.self.invariant.blocks.partition)

pub returns-clause-symbols : goal.returns-clause-symbols
returns-clause-symbols c =
    subst (λ (l : Lettering). length l.blocks ≡ l.path_symbols + l.markers) c.self.view_is c.self.invariant.blocks.symbols
