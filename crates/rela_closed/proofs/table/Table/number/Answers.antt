use Rattle.std.proofs.Common.{subst}
use Rattle.rela_closed.specs.Sets.{AreNumbered}
use Rattle.rela_closed.proofs.SetsFound.{all_sets, distinct_sets, numbered, sets_of}
use Rattle.rela_closed.proofs.table.Table.number.Goals as goal

pub invariant_of-self-2 : goal.invariant_of-self-2
invariant_of-self-2 c = distinct_sets c.insert_full.new.self.keys c.insert_full.ensures.unique

pub returns-clause-numbered : goal.returns-clause-numbered
returns-clause-numbered c =
    subst (λ old. AreNumbered (sets_of c.args.sets) old (all_sets c.insert_full.new.self.keys) c.in_ok-number.number) c.self.view_is
    (numbered c.self.inside.found.keys c.insert_full.new.self.keys c.in_ok-number.number c.args.sets c.in_ok-number.ensures.keys c.insert_full.ensures.unique c.in_ok-number.ensures.within
    c.in_ok-number.ensures.stored)

pub returns-clause-distinct : goal.returns-clause-distinct
returns-clause-distinct c = distinct_sets c.insert_full.new.self.keys c.insert_full.ensures.unique
