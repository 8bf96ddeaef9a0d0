use Rattle.rela_snapshot.proofs.PlainLaws.{found_is, list_kept}
use Rattle.rela_snapshot.proofs.plain_graph.list_in.Goals as goal

pub returns-clause-numbers : goal.returns-clause-numbers
returns-clause-numbers c =
    list_kept _ _ _ _ _ (found_is c.args.name.now c.args.members.now _ _ _ c.find.ensures.found c.in_ok-ok_or.ensures.ok_part c.in_ok-numbers.ensures.numbers) c.below.ensures.same c.below.ensures.within
