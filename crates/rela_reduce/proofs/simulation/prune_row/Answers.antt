use Rattle.std.proofs.Common.{◌≡◌, ◌/◌, ◌<◌, length, get_or, [], inl, inr, sym, ap, ◌∙◌, subst, arith}
use Rattle.std.proofs.lemmas.Bool.{cases_lt, false≢true}
use Rattle.std.proofs.lemmas.Grind.{div_ceil_times}
use Rattle.rela_reduce.specs.Bits.{HasBit}
use Rattle.rela_reduce.specs.Simulation.{GoesByRows, HasAnswer}
use Rattle.rela_reduce.specs.Stored.{lists_of, plain}
use Rattle.rela_reduce.proofs.Answering.{along_by_rows}
use Rattle.rela_reduce.proofs.Rows.{no_word}
use Rattle.rela_reduce.proofs.simulation.prune_row.Goals as goal
use Rattle.rela_reduce.proofs.simulation.prune_row.Goals.{then-word_at-ne0+then-prune_word, else-word_at-ne0, else-word_at-ne0-via-then-word_at-ne0+else-prune_word, else-word_at-ne0-via-else-word_at-ne0}

pub loop-place-preserved : goal.loop-place-preserved
loop-place-preserved c = elim c.if-word_at-ne0.branch [
  | then-word_at-ne0+then-prune_word w ↦ record {
    same = λ no. absurd (false≢true (sym no ∙ w.cleared-is));
    along = λ no. absurd (false≢true (sym no ∙ w.cleared-is));
  }
  | else-word_at-ne0 w ↦ record {
    same = λ no. w.relation-is ∙ elim w.else-word_at-ne0.branch [
      | else-word_at-ne0-via-then-word_at-ne0+else-prune_word w' ↦ w'.relation-is ∙ w'.prune_word.ensures.same w'.if-prune_word.false ∙ c.loop-place.invariant.same (sym w.cleared-is ∙ no)
      | else-word_at-ne0-via-else-word_at-ne0 w' ↦ w'.relation-is ∙ c.loop-place.invariant.same (sym w.cleared-is ∙ no)
    ];
    along = λ no q q_in below set.
        let before = sym w.cleared-is ∙ no in
        let same = c.loop-place.invariant.same before in
        elim (cases_lt (q / 64) c.loop-place.place) [
          | inl earlier ↦ c.loop-place.invariant.along before q q_in earlier set
          | inr later ↦
              let at : q / 64 ≡ c.loop-place.place = omega (arith, below, later) in
              elim w.else-word_at-ne0.branch [
                | else-word_at-ne0-via-then-word_at-ne0+else-prune_word w' ↦
                    subst (λ rel. GoesByRows (plain c.args.whole.now) c.args.closed.now.finals.items (lists_of rel) (lists_of c.answer_all.new.answers) c.args.p q) same
                    (w'.prune_word.ensures.along w'.if-prune_word.false q q_in at (subst (λ rel. HasBit (lists_of rel) c.args.p q) (sym same) set))
                | else-word_at-ne0-via-else-word_at-ne0 w' ↦
                    let words = get_or (lists_of c.loop-place.relation) c.args.p [] in
                    absurd (false≢true (
                    sym (no_word words q (ap (λ place. get_or words place 0) at ∙ sym c.word_at.ensures ∙ w'.if-word_at-ne0.false))
                    ∙ subst (λ rel. HasBit (lists_of rel) c.args.p q) (sym same) set
                    ))
              ]
        ];
  }
]

pub returns-clause-along : goal.returns-clause-along
returns-clause-along c = λ no q q_in set.
    let below : q / 64 < c.loop-place.place = omega (arith, q_in, c.div_ceil-place-end.ensures, div_ceil_times (length c.args.whole.now.finals.items) 64 (omega arith), c.args.whole.now.finals.ok.0) in
    along_by_rows (plain c.args.whole.now) (lists_of c.args.closed.now.steps.items) c.args.closed.now.finals.items (lists_of c.args.within.now) (lists_of c.args.relation.now)
    (lists_of c.answer_all.new.answers) c.args.p q
    (λ k t answered. subst (λ steps. HasAnswer (lists_of c.args.within.now) (lists_of c.args.relation.now) steps k t) c.steps_at.ensures (c.answer_all.ensures k t answered))
    (c.loop-place.invariant.along no q q_in below set)
