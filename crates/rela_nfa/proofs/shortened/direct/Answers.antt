use Rattle.std.proofs.Common.{sym, ◌∙◌, ap, subst, slice_index_or}
use Rattle.rela_nfa.specs.Automaton.{Automaton}
use Rattle.rela_nfa.specs.Detours.{IsDirect}
use Rattle.rela_nfa.proofs.Shortening.{direct_ok}
use Rattle.rela_nfa.proofs.shortened.direct.Goals as goal

pub invariant_of-result : goal.invariant_of-result
invariant_of-result g c =
    let a : Automaton = c.args.nfa.now in
    let ends = c.args.ends.now in
    let r : Automaton = record {
      letters = c.letters.result;
      start = slice_index_or ends c.start.result 0;
      finals = c.in_ok-finals.finals.items;
      edges = c.in_ok-edges.edges;
    } in
    let built : IsDirect a ends r = record {
      letters = c.letters.ensures.letters;
      start = ap (λ n. slice_index_or ends n 0) c.start.ensures.start;
      finals = c.in_ok-finals.ensures.items ∙ c.deref.ensures.value ∙ ap (λ (y : Automaton). y.finals) c.nfa.view_is;
      edges = c.in_ok-edges.ensures;
    } in
    (subst g.L.LabelSet.fits (sym c.letters.ensures.letters) c.letters.ensures.fits, direct_ok ends a r c.letters.ensures.automaton built c.requires.ends c.requires.count)
