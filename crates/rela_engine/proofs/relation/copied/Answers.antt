use Rattle.std.proofs.Common.{refl}
use Rattle.rela_engine.proofs.Rereading.{same_relation}
use Rattle.rela_engine.proofs.relation.copied.Goals as goal

pub relabel-requires-clause-refines : goal.relabel-requires-clause-refines
relabel-requires-clause-refines c = record { same_symbols = refl; together = λ s t s_in t_in one. one }

pub returns : goal.returns
returns c =
    same_relation c.args.blocks.now c.args.blocks.now refl c.args.plain.now c.in_ok-copy.copy
    c.start.ensures.machine c.start-2.ensures.machine c.requires c.in_ok-copy.ensures.letters c.in_ok-copy.ensures.relation
