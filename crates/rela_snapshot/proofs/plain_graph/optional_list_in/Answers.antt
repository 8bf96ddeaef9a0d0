use Rattle.std.proofs.Common.{refl}
use Rattle.rela_snapshot.proofs.PlainLaws.{found_is, missing_is, optional_list_kept, optional_list_missing}
use Rattle.rela_snapshot.proofs.plain_graph.optional_list_in.Goals as goal

pub returns-in_ok-numbers-in-Some-clause-numbers : goal.returns-in_ok-numbers-in-Some-clause-numbers
returns-in_ok-numbers-in-Some-clause-numbers c =
    optional_list_kept _ _ _ _ _ (found_is c.args.name.now c.args.members.now _ _ _ c.find.ensures.found c.in-Some.is c.in_ok-numbers-in-Some.ensures.numbers) c.below.ensures.same c.below.ensures.within

pub returns-in-None-clause-numbers : goal.returns-in-None-clause-numbers
returns-in-None-clause-numbers c = λ rule row. optional_list_missing _ _ rule row _ _ (missing_is c.args.name.now c.args.members.now _ c.find.ensures.found c.in-None.is) refl
