use Rattle.std.proofs.Common.{sym, subst}
use Rattle.std.proofs.lemmas.Result.{IfOk-weaker}
use Rattle.rela_reduce.specs.Bits.{HasBit}
use Rattle.rela_reduce.specs.Simulation.{AreWithin}
use Rattle.rela_reduce.specs.Stored.{lists_of, plain}
use Rattle.rela_reduce.proofs.Reduced.{simulates_of}
use Rattle.rela_reduce.proofs.Rows.{no_rows}
use Rattle.rela_reduce.proofs.reducing.relation_of.Goals as goal

pub returns-in_ok-within-in-Some : goal.returns-in_ok-within-in-Some
returns-in_ok-within-in-Some g c =
    let closed = rw c.in-Some.is at c.in_ok-closed.ensures in
    let within = subst (λ rows. AreWithin c.args.labels.now (lists_of rows)) (sym c.deref.ensures.value) c.in_ok-within-in-Some.ensures in
    IfOk-weaker c.simulation.result _ _
    (λ rows along p q p_in q_in set.
    simulates_of c.args.labels.now (plain c.args.whole.now) (lists_of c.in-Some.closed.steps.items) c.in-Some.closed.finals.items (lists_of c.deref.result.now) (lists_of rows.items) closed within p q
    (along p q p_in q_in set)) c.simulation.ensures

pub returns-then-len-gt-MOST_STATES : goal.returns-then-len-gt-MOST_STATES
returns-then-len-gt-MOST_STATES g c = λ p q p_in q_in set. absurd (no_rows p q (subst (λ rows. HasBit (lists_of rows) p q) c.new.ensures.items set))

pub returns-in-None : goal.returns-in-None
returns-in-None g c = λ p q p_in q_in set. absurd (no_rows p q (subst (λ rows. HasBit (lists_of rows) p q) c.new-in-None.ensures.items set))
