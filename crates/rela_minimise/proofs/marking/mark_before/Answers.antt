use Rattle.std.proofs.Common.{◌+◌, ◌<◌, length, get_or, take, subst, sym}
use Rattle.std.specs.List.{All, Contains}
use Rattle.std.proofs.lemmas.List.{take_all}
use Rattle.rela_minimise.specs.Refining.{Marks}
use Rattle.rela_minimise.specs.Stored.{lists_of}
use Rattle.rela_minimise.proofs.OneByOne.{PrecedesOne, list_read, marks_both, marks_none, one_more, one_none}
use Rattle.rela_minimise.proofs.marking.mark_before.Goals as goal

pub loop-q-init : goal.loop-q-init
loop-q-init c = marks_none (PrecedesOne (lists_of c.args.predecessors.now) (take 0 c.args.states.now)) c.args.stale.now c.args.waiting.now.items (one_none (lists_of c.args.predecessors.now) c.args.states.now)

pub mark_all-requires : goal.mark_all-requires
mark_all-requires c =
    subst (λ n. All (λ p. p < n) c.deref.result.now) (sym c.loop-q.invariant.each)
    (subst (All (λ p. p < length c.args.stale.now))
    (sym (list_read c.args.predecessors.now (get_or c.args.states.now c.loop-q.q-index 0) c.index-predecessors-q.result c.deref.result.now (c.requires.states c.loop-q.q-index 0 c.loop-q-test.true) c.index-predecessors-q.is c.deref.ensures.value))
    (c.requires.predecessors (get_or c.args.states.now c.loop-q.q-index 0)))

pub loop-q-preserved : goal.loop-q-preserved
loop-q-preserved c =
    marks_both (PrecedesOne (lists_of c.args.predecessors.now) (take c.loop-q.q-index c.args.states.now)) (Contains c.deref.result.now)
    (PrecedesOne (lists_of c.args.predecessors.now) (take (c.loop-q.q-index + 1) c.args.states.now)) _ _ _ _ _ _ c.loop-q.invariant c.in_ok-mark_all.ensures
    (one_more (lists_of c.args.predecessors.now) c.args.states.now c.loop-q.q-index c.deref.result.now c.loop-q-test.true
    (list_read c.args.predecessors.now (get_or c.args.states.now c.loop-q.q-index 0) c.index-predecessors-q.result c.deref.result.now (c.requires.states c.loop-q.q-index 0 c.loop-q-test.true) c.index-predecessors-q.is c.deref.ensures.value))

pub returns : goal.returns
returns c =
    subst (λ states. Marks (PrecedesOne (lists_of c.args.predecessors.now) states) c.args.stale.now c.args.waiting.now.items c.loop-q.stale c.loop-q.waiting.items)
    (take_all c.loop-q.q-index c.args.states.now c.loop-q-test.false) c.loop-q.invariant
