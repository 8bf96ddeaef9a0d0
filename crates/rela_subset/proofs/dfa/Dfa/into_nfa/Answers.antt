use Rattle.std.proofs.Common.{◌≡◌, ◌↔◌, ℕ, List, length, ap, sym, subst, ◌∙◌}
use Rattle.rela_nfa.specs.Automaton.{Automaton}
use Rattle.rela_nfa.specs.Runs.{Reach, Accepts}
use Rattle.rela_subset.specs.Deterministic.{IsDeterministic, IsAccepted, LeadsTo, automaton_of}
use Rattle.rela_subset.proofs.Words.{reach_leads, accepts_accepted}
use Rattle.rela_subset.proofs.Views.{automaton_is}
use Rattle.rela_subset.proofs.dfa.Dfa.into_nfa.Goals as goal

module _ (g : Rattle.rela_subset.proofs.dfa.Dfa.into_nfa.Given.Over) (c : goal.After-drop-self-inside-2 g) where
  ok : IsDeterministic c.args.self
  ok = subst IsDeterministic c.self.view_is c.self.invariant

  same : automaton_of c.args.self ≡ c.in_ok-nfa.nfa
  same =
      let is = c.in_ok-nfa.ensures in
      sym (automaton_is c.in_ok-nfa.nfa c.args.self
      (is.letters ∙ c.size-letters.ensures.size ∙ ap (λ d. length d.over) c.self.view_is)
      (is.start ∙ ap (λ d. d.start) c.self.view_is)
      (is.finals ∙ c.deref.ensures.value ∙ ap (λ d. d.finals) c.self.view_is)
      (is.edges ∙ ap (λ d. d.edges) c.self.view_is))

pub returns-clause-reach : goal.returns-clause-reach
returns-clause-reach g c = subst (λ (nfa : Automaton). (q : ℕ) (word : List ℕ) → Reach nfa q word ↔ LeadsTo c.args.self q word) (same g c) (reach_leads c.args.self (ok g c))

pub returns-clause-language : goal.returns-clause-language
returns-clause-language g c = subst (λ (nfa : Automaton). (word : List ℕ) → Accepts nfa word ↔ IsAccepted c.args.self word) (same g c) (accepts_accepted c.args.self (ok g c))
