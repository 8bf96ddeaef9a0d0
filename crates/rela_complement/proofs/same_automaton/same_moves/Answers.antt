use Rattle.std.proofs.Common.{◌∙◌, ◌≤◌, length, sym, refl, arith}
use Rattle.std.proofs.lemmas.List.{take_all}
use Rattle.rela_complement.proofs.same_automaton.same_moves.Goals as goal

pub returns : goal.returns
returns g c =
    let q = c.loop-q.q in
    let a = c.args.a.now in
    let b = c.args.b.now in
    let a_over : length a.edges ≤ q = omega (arith, c.loop-q-test.false, c.states-q-end.ensures.states, c.states-q-end.ensures.automaton.each) in
    let b_over : length b.edges ≤ q = omega (arith, c.loop-q-test.false, c.states-q-end.ensures.states, c.start.ensures.automaton.each, c.requires) in (
      λ t. sym (take_all q a.edges a_over) ∙ c.loop-q.invariant ∙ take_all q b.edges b_over,
      λ same. refl,
    )
