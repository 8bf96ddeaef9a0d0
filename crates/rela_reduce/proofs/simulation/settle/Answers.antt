use Rattle.std.proofs.Common.{sym, subst}
use Rattle.std.proofs.lemmas.Bool.{not-true}
use Rattle.rela_reduce.specs.Bits.{HasBit}
use Rattle.rela_reduce.specs.Simulation.{GoesAlong}
use Rattle.rela_reduce.specs.Stored.{lists_of, plain}
use Rattle.rela_reduce.proofs.simulation.settle.Goals as goal

pub returns-then-not-prune_due : goal.returns-then-not-prune_due
returns-then-not-prune_due c = λ settled p q p_in q_in set.
    let no = not-true c.prune.result settled in
    let same = c.prune.ensures.same no in
    subst (λ rel. GoesAlong (plain c.args.whole.now) (lists_of c.args.closed.now.steps.items) c.args.closed.now.finals.items (lists_of c.args.within.now) (lists_of rel) p q) (sym same)
    (c.prune.ensures.along no p q p_in q_in (subst (λ rel. HasBit (lists_of rel) p q) same set))
