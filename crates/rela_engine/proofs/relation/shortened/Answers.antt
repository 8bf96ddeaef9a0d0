use Rattle.rela_build.specs.Reading.{read_by}
use Rattle.rela_trans.specs.Runs.{Relates}
use Rattle.rela_engine.proofs.CheckedRelations.{realised_alike}
use Rattle.rela_engine.proofs.relation.shortened.Goals as goal

pub returns : goal.returns
returns c =
    let R = Relates (read_by c.args.blocks.now) c.args.plain.now in
    realised_alike c.args.blocks.now R c.in_ok-pruned.pruned c.in_ok-shortened.shortened
    c.in_ok-shortened.ensures.letters c.in_ok-shortened.ensures.relation
    (realised_alike c.args.blocks.now R c.in_ok-copy.copy c.in_ok-pruned.pruned
    c.in_ok-pruned.ensures.letters c.in_ok-pruned.ensures.relation c.in_ok-copy.ensures)
