use Rattle.std.proofs.Common.{◌∙◌, ap, slice_index_or, arith, length}
use Rattle.rela_letter_nfa.specs.Chains.{IsDirect}
use Rattle.rela_letter_nfa.specs.LetterAutomaton.{LetterAutomaton}
use Rattle.rela_letter_nfa.proofs.WithoutChains.{direct_ok}
use Rattle.rela_letter_nfa.proofs.without_chains.direct.Goals as goal

pub invariant_of-result : goal.invariant_of-result
invariant_of-result c =
    let a : LetterAutomaton = c.args.nfa.now in
    let ends = c.args.ends.now in
    let r : LetterAutomaton = record {
      start = slice_index_or ends c.start.result 0;
      finals = c.in_ok-finals.finals.items;
      silents = c.in_ok-silents.silents.0;
      edges = c.in_ok-edges.edges.0;
    } in
    let finals = c.in_ok-finals.ensures.items ∙ c.deref.ensures.value ∙ ap (λ (y : LetterAutomaton). y.finals) c.nfa.view_is in
    let built : IsDirect a ends r = record {
      start = ap (λ n. slice_index_or ends n 0) c.start.ensures.start;
      finals = finals;
      silents = ap (λ v. v.0) c.in_ok-silents.ensures;
      edges = ap (λ v. v.0) c.in_ok-edges.ensures;
    } in
    (direct_ok ends a r c.start.ensures.automaton built c.requires.ends c.requires.count, omega (arith, ap length (c.in_ok-finals.ensures.items ∙ c.deref.ensures.value), c.nfa.invariant.1))
