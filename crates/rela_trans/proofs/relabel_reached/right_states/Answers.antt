use Rattle.std.proofs.Common.{◌↔◌, List, false, IsTrue, get_or, ◌∙◌, subst, arith}
use Rattle.std.proofs.lemmas.List.{length-set, take_all}
use Rattle.rela_pairs.specs.declared.pair.Pair.{Pair}
use Rattle.rela_nfa.specs.Meeting.{pair_of}
use Rattle.rela_trans.proofs.Marked.{IsRight, right_more}
use Rattle.rela_trans.proofs.relabel_reached.right_states.Goals as goal

pub loop-pair-preserved : goal.loop-pair-preserved
loop-pair-preserved c =
    let flags = c.loop-pair.are_right.items in
    let pairs = c.args.pairs.now in
    let i = c.loop-pair.pair-index in
    record {
      len = length-set flags _ _ ∙ c.loop-pair.invariant.len;
      right = right_more flags pairs i (pair_of 0 0) c.loop-pair-test.true (omega (arith, c.requires i (pair_of 0 0) c.loop-pair-test.true, c.loop-pair.invariant.len)) c.loop-pair.invariant.right;
    }

pub returns-clause-right : goal.returns-clause-right
returns-clause-right c = λ q.
    subst (λ (l : List Pair). IsTrue (get_or c.loop-pair.are_right.items q false) ↔ IsRight l q) (take_all c.loop-pair.pair-index c.args.pairs.now c.loop-pair-test.false) (c.loop-pair.invariant.right q)
