use Rattle.std.proofs.Common.{◌+◌, take, subst}
use Rattle.std.specs.List.{Contains}
use Rattle.std.proofs.lemmas.List.{take_all}
use Rattle.rela_minimise.specs.Refining.{Marks}
use Rattle.rela_minimise.proofs.OneByOne.{in_take, marks_both, marks_none, none_among}
use Rattle.rela_minimise.proofs.marking.mark_all.Goals as goal

pub loop-q-init : goal.loop-q-init
loop-q-init c = marks_none (Contains (take 0 c.args.states.now)) c.args.stale.now c.args.waiting.now.items (λ q. none_among q)

pub loop-q-preserved : goal.loop-q-preserved
loop-q-preserved c =
    marks_both (Contains (take c.loop-q.q-index c.args.states.now)) _ (Contains (take (c.loop-q.q-index + 1) c.args.states.now)) _ _ _ _ _ _ c.loop-q.invariant c.in_ok-mark.ensures
    (λ q among. in_take c.args.states.now c.loop-q.q-index q c.loop-q-test.true among)

pub returns : goal.returns
returns c = subst (λ states. Marks (Contains states) c.args.stale.now c.args.waiting.now.items c.loop-q.stale c.loop-q.waiting.items) (take_all c.loop-q.q-index c.args.states.now c.loop-q-test.false) c.loop-q.invariant
