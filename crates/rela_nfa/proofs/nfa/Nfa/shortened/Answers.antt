use Rattle.std.proofs.Common.{ℕ, ◌<◌, List, get_or, subst}
use Rattle.rela_nfa.specs.Automaton.{Automaton, IsAutomaton, states}
use Rattle.rela_nfa.specs.Detours.{Detours, IsDirect, IsEnd}
use Rattle.rela_nfa.proofs.Shortening.{direct_begins, direct_edges, direct_ends, direct_language, direct_pulled, direct_reach, direct_states}
use Rattle.rela_nfa.proofs.nfa.Nfa.shortened.Goals as goal

pub returns : goal.returns
returns g c =
    let a : Automaton = c.args.self.now in
    let ends : List ℕ = c.in_ok-ends.ends.items in
    let r = c.in_ok-nfa.nfa in
    let ok : IsAutomaton a = c.in_ok-nfa.ensures.automaton in
    let built : IsDirect a ends r = subst (λ l. IsDirect a l r) c.deref.ensures.value c.in_ok-nfa.ensures.direct in
    let led : (q : ℕ) → q < states a → Detours a q (get_or ends q 0) = c.in_ok-ends.ensures.led in
    let ended : (q : ℕ) → q < states a → IsEnd a (get_or ends q 0) = c.in_ok-ends.ensures.ended in
    record {
      letters = built.letters;
      states = direct_states ends a r ok built;
      finals = built.finals;
      edges = direct_edges ends a r ok built;
      begins = direct_begins ends a r ok built led ended;
      direct = direct_ends ends a r ok built led ended;
      pulled = direct_pulled ends a r ok built;
      reached = direct_reach ends a r ok built led ended;
      language = direct_language ends a r ok built led ended;
    }
