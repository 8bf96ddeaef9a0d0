use Rattle.std.proofs.Common.{◌≡◌, ℕ, List, length, inl, inr, ◌∙◌, arith, slice_index_or}
use Rattle.std.specs.declared.vec.Vec.{Vec}
use Rattle.std.proofs.lemmas.Bool.{cases_lt}
use Rattle.rela_reduce.specs.Simulation.{HasAnswer}
use Rattle.rela_reduce.specs.Stored.{lists_of}
use Rattle.rela_reduce.proofs.Rows.{none_past, row_set}
use Rattle.rela_reduce.proofs.answers.answer_all.Goals as goal

pub loop-k-preserved : goal.loop-k-preserved
loop-k-preserved c =
    let k : ℕ = c.loop-k.k in
    let before : List (Vec ℕ _) = c.loop-k.answers in
    let old = slice_index_or before k c.index-answers-k.result in
    let row = c.answer.new.row in
    let len : length row ≡ old.len = c.answer.auto.row ∙ c.deref_mut.ensures.len in
    row_set before k c.index-answers-k.result row (λ j t. HasAnswer (lists_of c.args.within.now) (lists_of c.args.relation.now) c.args.steps.now j t)
    (omega arith) len c.loop-k.invariant c.answer.ensures

pub returns : goal.returns
returns c = λ k t set. elim (cases_lt k (length c.loop-k.answers)) [
  | inl within ↦ c.loop-k.invariant k t (omega arith) set
  | inr past ↦ absurd (none_past c.loop-k.answers k t past set)
]
