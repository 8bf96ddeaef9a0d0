use Rattle.std.proofs.Common.{◌*◌, ◌-◌, [], get_or, sym, ◌∙◌, subst, below_more, arith}
use Rattle.std.proofs.lemmas.Bool.{false≢true}
use Rattle.rela_reduce.specs.Simulation.{GoesByRows}
use Rattle.rela_reduce.specs.Stored.{lists_of, plain}
use Rattle.rela_reduce.proofs.Rows.{bit_in_word}
use Rattle.rela_reduce.proofs.simulation.prune_word.Goals as goal
use Rattle.rela_reduce.proofs.simulation.prune_word.Goals.{then-is_one+then-not-goes_along, else-is_one, else-is_one-via-then-is_one+else-not-goes_along, else-is_one-via-else-is_one}

pub loop-q-preserved : goal.loop-q-preserved
loop-q-preserved c = elim c.if-is_one.branch [
  | then-is_one+then-not-goes_along w ↦ record {
    same = λ no. absurd (false≢true (sym no ∙ w.cleared-is));
    along = λ no. absurd (false≢true (sym no ∙ w.cleared-is));
  }
  | else-is_one w ↦ record {
    same = λ no. w.relation-is ∙ c.loop-q.invariant.same (sym w.cleared-is ∙ no);
    along = λ no.
        let before = sym w.cleared-is ∙ no in
        let same = c.loop-q.invariant.same before in
        below_more _ _ (c.loop-q.invariant.along before) (λ from set. elim w.else-is_one.branch [
          | else-is_one-via-then-is_one+else-not-goes_along w' ↦
              subst (λ rel. GoesByRows (plain c.args.whole.now) c.args.closed.now.finals.items (lists_of rel) (lists_of c.args.answers.now) c.args.p c.loop-q.q) same
              (w'.goes_along.ensures w'.if-not-goes_along.false)
          | else-is_one-via-else-is_one w' ↦ absurd (false≢true (sym w'.if-is_one.false ∙ c.is_one.ensures
              ∙ sym (bit_in_word (get_or (lists_of c.args.relation.now) c.args.p []) c.loop-q.q c.args.place (c.loop-q.q - c.args.place * 64) c.word_at-word.result (omega (arith, from)) (omega (arith, from)) c.word_at-word.ensures) ∙ set))
        ]);
  }
]

pub returns-clause-along : goal.returns-clause-along
returns-clause-along c = λ no q below place set. c.loop-q.invariant.along no q (omega (arith, below, place)) (omega (arith, place)) set
