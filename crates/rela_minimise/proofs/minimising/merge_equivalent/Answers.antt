use Rattle.rela_minimise.proofs.Heads.{classes_in_order, counted_all}
use Rattle.rela_minimise.proofs.Minimal.{made_minimal, starts_first}
use Rattle.rela_minimise.proofs.minimising.merge_equivalent.Goals as goal

pub in_order-requires : goal.in_order-requires
in_order-requires g c = counted_all c.args.dfa.now c.in_ok-classes.classes.count c.in_ok-classes.classes.numbers.items c.in_ok-classes.ensures

pub quotient-requires-clause-classes : goal.quotient-requires-clause-classes
quotient-requires-clause-classes g c =
    (classes_in_order c.args.dfa.now c.in_ok-classes.classes.count c.in_ok-classes.classes.numbers.items c.in_ok-ordered.ordered.numbers.items c.in_ok-ordered.ordered.heads.items c.in_ok-classes.ensures c.in_ok-ordered.ensures).0

pub quotient-requires-clause-heads : goal.quotient-requires-clause-heads
quotient-requires-clause-heads g c =
    (classes_in_order c.args.dfa.now c.in_ok-classes.classes.count c.in_ok-classes.classes.numbers.items c.in_ok-ordered.ordered.numbers.items c.in_ok-ordered.ordered.heads.items c.in_ok-classes.ensures c.in_ok-ordered.ensures).1

pub returns-clause-start : goal.returns-clause-start
returns-clause-start g c = starts_first c.in_ok-made.made (c.in_ok-made.ensures.arrival c.requires.arrival)

pub returns-clause-reachable : goal.returns-clause-reachable
returns-clause-reachable g c = c.in_ok-made.ensures.reachable c.requires.reachable

pub returns-clause-arrival : goal.returns-clause-arrival
returns-clause-arrival g c = c.in_ok-made.ensures.arrival c.requires.arrival

pub returns-clause-minimal : goal.returns-clause-minimal
returns-clause-minimal g c =
    made_minimal c.args.dfa.now c.in_ok-made.made c.in_ok-made.ensures.over c.in_ok-made.ensures.language c.in_ok-made.ensures.alike (c.in_ok-made.ensures.reachable c.requires.reachable)

pub returns-clause-classes : goal.returns-clause-classes
returns-clause-classes g c = c.in_ok-made.ensures.alike
