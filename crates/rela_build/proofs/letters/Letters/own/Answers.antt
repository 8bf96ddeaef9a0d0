use Rattle.std.proofs.Common.{ap, ◌∙◌}
use Rattle.rela_labels.specs.Partition.{block_of}
use Rattle.rela_build.specs.Lettering.{Lettering}
use Rattle.rela_build.proofs.OwnLetters.{alone}
use Rattle.rela_build.proofs.letters.Letters.own.Goals as goal

pub returns-clause-alone : goal.returns-clause-alone
returns-clause-alone c t e =
    alone c.args.self.now.blocks c.args.s c.block_of.result c.requires
    (c.block_of.ensures.block ∙ ap (λ (l : Lettering). block_of l.blocks c.args.s) c.self.view_is) t e
