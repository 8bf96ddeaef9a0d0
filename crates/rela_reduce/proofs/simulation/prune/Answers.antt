use Rattle.std.proofs.Common.{◌≡◌, ◌+◌, ◌-◌, length, sym, ◌∙◌, subst, inl, inr, arith}
use Rattle.std.proofs.lemmas.Bool.{cases_lt, false≢true}
use Rattle.rela_reduce.specs.Bits.{HasBit}
use Rattle.rela_reduce.specs.Simulation.{GoesAlong}
use Rattle.rela_reduce.specs.Stored.{lists_of, plain}
use Rattle.rela_reduce.proofs.simulation.prune.Goals as goal
use Rattle.rela_reduce.proofs.simulation.prune.Goals.{then-prune_row, else-prune_row}

pub loop-later-preserved : goal.loop-later-preserved
loop-later-preserved c = elim c.if-prune_row.branch [
  | then-prune_row w ↦ record {
    same = λ no. absurd (false≢true (sym no ∙ w.cleared-is));
    along = λ no. absurd (false≢true (sym no ∙ w.cleared-is));
  }
  | else-prune_row w ↦ record {
    same = λ no. c.prune_row.ensures.same w.if-prune_row.false ∙ c.loop-later.invariant.same (sym w.cleared-is ∙ no);
    along = λ no.
        let before = sym w.cleared-is ∙ no in
        let same = c.loop-later.invariant.same before in
        λ p q p_in late q_in set. elim (cases_lt (p + c.loop-later.later) (length c.args.whole.now.finals.items)) [
          | inl first ↦
              let at : c.len.result - 1 - c.loop-later.later ≡ p = omega (arith, c.args.whole.now.finals.ok.0) in
              subst (λ m. GoesAlong (plain c.args.whole.now) (lists_of c.args.closed.now.steps.items) c.args.closed.now.finals.items (lists_of c.args.within.now) (lists_of c.args.relation.now) m q) at
              (subst (λ rel. GoesAlong (plain c.args.whole.now) (lists_of c.args.closed.now.steps.items) c.args.closed.now.finals.items (lists_of c.args.within.now) (lists_of rel) (c.len.result - 1 - c.loop-later.later) q) same
              (c.prune_row.ensures.along w.if-prune_row.false q q_in
              (subst (λ m. HasBit (lists_of c.loop-later.relation) m q) (sym at) (subst (λ rel. HasBit (lists_of rel) p q) (sym same) set))))
          | inr more ↦ c.loop-later.invariant.along before p q p_in more q_in set
        ];
  }
]

pub returns-clause-along : goal.returns-clause-along
returns-clause-along c = λ no p q p_in q_in set. c.loop-later.invariant.along no p q p_in (omega arith) q_in set
