use Rattle.std.proofs.Common.{◌≡◌, ◌↔◌, ◌<◌, ℕ, IsTrue, false, get_or, length, map, ap, sym, ◌∙◌, subst, arith}
use Rattle.std.proofs.lemmas.List.{get_or_default}
use Rattle.rela_nfa.specs.Automaton.{Automaton, IsFinal, states}
use Rattle.rela_nfa.specs.Detours.{redirected}
use Rattle.rela_reduce.specs.Passing.{LeadsPast}
use Rattle.rela_reduce.proofs.PastDetours.{past_apart, past_language, past_ok, past_same}
use Rattle.rela_reduce.proofs.passing.past_detours.Goals as goal

pub from_lists-requires-clause-automaton : goal.from_lists-requires-clause-automaton
from_lists-requires-clause-automaton g c =
    let a : Automaton = c.args.a.now in
    let ends = c.in_ok-ends.ends.items in
    let r : Automaton = record { letters = c.letters.result; start = c.index.result.now; finals = c.in_ok-finals.finals.items; edges = c.in_ok-edges.edges } in
    let built : LeadsPast a ends r = record {
      letters = c.letters.ensures.letters;
      start =
          c.index.ensures ∙ get_or_default ends c.start.result c.index.result.now 0 (omega (arith, c.start.ensures.state, c.in_ok-ends.ensures.each))
          ∙ ap (λ n. get_or ends n 0) c.start.ensures.start;
      count = c.in_ok-finals.ensures.count;
      finals = subst (λ l. (q : ℕ) → q < states a → get_or l q 0 ≡ q → IsTrue (get_or c.in_ok-finals.finals.items q false) ↔ IsFinal a q) c.deref.ensures.value c.in_ok-finals.ensures.finals;
      edges = c.in_ok-edges.ensures ∙ ap (λ l. map (map (redirected l)) a.edges) c.deref-2.ensures.value;
    } in
    past_ok a r c.start.ensures.automaton ends c.in_ok-ends.ensures built

pub returns : goal.returns
returns g c =
    let a : Automaton = c.args.a.now in
    let ends = c.in_ok-ends.ends.items in
    let r : Automaton = c.from_lists.result in
    let built : LeadsPast a ends r = record {
      letters = c.from_lists.ensures.letters ∙ c.letters.ensures.letters;
      start =
          c.from_lists.ensures.start ∙ c.index.ensures ∙ get_or_default ends c.start.result c.index.result.now 0 (omega (arith, c.start.ensures.state, c.in_ok-ends.ensures.each))
          ∙ ap (λ n. get_or ends n 0) c.start.ensures.start;
      count = ap length c.from_lists.ensures.finals ∙ c.in_ok-finals.ensures.count;
      finals =
          subst (λ fs. (q : ℕ) → q < states a → get_or ends q 0 ≡ q → IsTrue (get_or fs q false) ↔ IsFinal a q) (sym c.from_lists.ensures.finals)
          (subst (λ l. (q : ℕ) → q < states a → get_or l q 0 ≡ q → IsTrue (get_or c.in_ok-finals.finals.items q false) ↔ IsFinal a q) c.deref.ensures.value c.in_ok-finals.ensures.finals);
      edges = c.from_lists.ensures.edges ∙ c.in_ok-edges.ensures ∙ ap (λ l. map (map (redirected l)) a.edges) c.deref-2.ensures.value;
    } in
    record {
      letters = built.letters;
      language = past_language a r c.start.ensures.automaton ends c.in_ok-ends.ensures built;
      same = past_same a r c.start.ensures.automaton ends c.in_ok-ends.ensures built;
      apart = past_apart a r c.start.ensures.automaton ends c.in_ok-ends.ensures built;
    }
