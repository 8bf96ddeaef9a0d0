use Rattle.std.proofs.Common.{◌≡◌, arith, sym, subst}
use Rattle.rela_nfa.specs.Automaton.{states}
use Rattle.rela_letter_image.specs.ByLetters.{IsByLetters}
use Rattle.rela_letter_image.proofs.CopiedStates.{all_by_letters, copied_more, copied_none, copy_ok}
use Rattle.rela_letter_image.proofs.letter_by_letter.by_letters_within.Goals as goal

pub loop-q-init : goal.loop-q-init
loop-q-init g c = copied_none c.args.nfa.now c.in_ok-builder.builder.parts c.in_ok-builder.ensures

pub loop-q-preserved : goal.loop-q-preserved
loop-q-preserved g c = copied_more c.args.nfa.now c.loop-q.q c.loop-q.builder.parts c.add_copy.new.builder.parts c.loop-q.invariant c.in_ok-add_copy.ensures

pub finish-requires-clause-automaton : goal.finish-requires-clause-automaton
finish-requires-clause-automaton g c =
    let done : c.loop-q.q ≡ states c.args.nfa.now = omega (arith, c.loop-q-test.false, c.states-q-end.ensures.states, c.loop-q.auto.q-end) in
    copy_ok c.args.nfa.now c.loop-q.q c.start.result c.loop-q.builder.parts c.loop-q.invariant done c.start.ensures.start c.start.ensures.automaton

pub finish-requires-clause-few : goal.finish-requires-clause-few
finish-requires-clause-few g c =
    omega (arith, c.loop-q-test.false, c.states-q-end.ensures.states, c.loop-q.auto.q-end, c.loop-q.invariant.count, c.if-states-gt-MAX_STATES.false, c.states-else-states-most.ensures.states)

pub returns : goal.returns
returns g c =
    let done : c.loop-q.q ≡ states c.args.nfa.now = omega (arith, c.loop-q-test.false, c.states-q-end.ensures.states, c.loop-q.auto.q-end) in
    subst (IsByLetters c.args.nfa.now) (sym c.finish.ensures)
    (all_by_letters c.args.nfa.now c.loop-q.q c.start.result c.loop-q.builder.parts c.loop-q.invariant done c.start.ensures.start c.start.ensures.automaton)
