use Rattle.std.proofs.Common.{◌++◌, map, ◌∙◌, sym, ap}
use Rattle.std.proofs.lemmas.List.{take_all}
use Rattle.rela_nfa.specs.Meeting.{pair_of}
use Rattle.rela_trans.specs.Reached.{letter_pairs, may_read, pair_if}
use Rattle.rela_trans.specs.Stored.{move_of}
use Rattle.rela_trans.proofs.OneMore.{flat_more}
use Rattle.rela_trans.proofs.reading_finer.add_by_letter.Goals as goal

pub loop-step-preserved : goal.loop-step-preserved
loop-step-preserved g c =
    flat_more (move_of g.L.LabelSet.letters) (λ n. pair_if (may_read c.args.letter n.kind) (pair_of c.args.left n.to)) c.args.moves.now c.loop-step.step-index c.step-item.result
    c.args.followers.now.items c.loop-step.followers.items _ c.loop-step-test.true (sym c.step-item.is) c.loop-step.invariant
    (c.in_ok-add_if.ensures ∙ ap (λ b. c.loop-step.followers.items ++ pair_if b (pair_of c.args.left c.step-item.result.to)) c.may_read.ensures)

pub returns : goal.returns
returns g c =
    c.loop-step.invariant
    ∙ ap (λ l. c.args.followers.now.items ++ letter_pairs c.args.letter c.args.left (map (move_of g.L.LabelSet.letters) l)) (take_all c.loop-step.step-index c.args.moves.now c.loop-step-test.false)
