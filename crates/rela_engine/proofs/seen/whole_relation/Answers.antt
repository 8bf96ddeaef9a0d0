use Rattle.rela_engine.proofs.Rereading.{same_relation, same_reach}
use Rattle.rela_engine.proofs.seen.whole_relation.Goals as goal

pub returns-clause-relation : goal.returns-clause-relation
returns-clause-relation g c =
    same_relation c.args.coarse.now c.args.blocks.now c.requires.refines.same_symbols c.args.relation.now c.in_ok-finer.finer
    c.start.ensures.machine c.start-2.ensures.machine c.requires.letters c.in_ok-finer.ensures.letters c.in_ok-finer.ensures.relation

pub returns-clause-reached : goal.returns-clause-reached
returns-clause-reached g c =
    same_reach c.args.coarse.now c.args.blocks.now c.requires.refines.same_symbols c.args.relation.now c.in_ok-finer.finer
    c.start.ensures.machine c.start-2.ensures.machine c.requires.letters c.in_ok-finer.ensures.letters c.in_ok-finer.ensures.reached
