use Rattle.std.proofs.Common.{length, drop, sym, ◌∙◌, subst}
use Rattle.rela_reduce.specs.Bits.{HasBit}
use Rattle.rela_reduce.specs.Simulation.{GoesAlong}
use Rattle.rela_reduce.specs.Stored.{lists_of, plain}
use Rattle.rela_reduce.proofs.Rows.{no_rows}
use Rattle.rela_reduce.proofs.Stepping.{taken_whole}
use Rattle.rela_reduce.proofs.simulation.simulation.Goals as goal

pub returns-then-settle : goal.returns-then-settle
returns-then-settle c =
    let new = c.settle.new.relation in
    let whole = taken_whole c.loop-round.relation.len new (drop (length new) c.loop-round.relation.items) (c.settle.auto.relation ∙ c.deref_mut.ensures.len) in
    λ p q p_in q_in set.
    subst (λ rel. GoesAlong (plain c.args.whole.now) (lists_of c.args.closed.now.steps.items) c.args.closed.now.finals.items (lists_of c.args.within.now) (lists_of rel) p q) (sym whole)
    (c.settle.ensures c.if-settle.true p q p_in q_in (subst (λ rel. HasBit (lists_of rel) p q) whole set))

pub returns : goal.returns
returns c = λ p q p_in q_in set. absurd (no_rows p q (subst (λ rows. HasBit (lists_of rows) p q) c.new-2.ensures.items set))
