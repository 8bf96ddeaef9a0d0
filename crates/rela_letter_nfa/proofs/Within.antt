-- What is reached from states of two automata is one of their states.
use Rattle.std.proofs.Common.{ℕ, ◌+◌, ◌<◌, List, [], ◌∷◌, get_or, Option, None, Some, subst, inl, inr, arith}
use Rattle.std.specs.List.{All, Contains}
use Rattle.std.proofs.lemmas.Bool.{cases_lt}
use Rattle.std.proofs.lemmas.List.{get_or_past}
use Rattle.std.proofs.lemmas.List.Elements.{All-contains, All-from_get_or, All-get_or, Contains-get_or}
use Rattle.rela_letter_nfa.specs.LetterAutomaton.{LetterAutomaton, IsLetterAutomaton, states}
use Rattle.rela_letter_nfa.specs.Pair.{ArePaired, Pair, joined, starts_of}
use Rattle.rela_letter_nfa.specs.Runs.{Step, HasStep, Follow}
use Rattle.rela_letter_nfa.specs.Sets.{LeadsFrom, Lists}
use Rattle.rela_letter_nfa.proofs.EdgesOut.{step_within}
use Rattle.rela_letter_nfa.proofs.Joined.{joined_is, joined_states}
use Rattle.rela_letter_nfa.proofs.Members.{Contains-cons_cases, Contains-nil}

pub any_step_within : (a : LetterAutomaton) → IsLetterAutomaton a → (p : ℕ) (letter : Option ℕ) (q : ℕ) → HasStep a p letter q → q < states a
any_step_within a ok p None q step = elim (cases_lt p (states a)) [
  | inl below ↦
      All-contains (λ n. n < states a) (get_or a.silents p []) q
      (All-get_or (All (λ n. n < states a)) a.silents p [] (let each = ok.each_silents in omega arith) ok.silents) step
  | inr past ↦ absurd (Contains-nil q (subst (λ (l : List ℕ). Contains l q) (get_or_past a.silents p [] (let each = ok.each_silents in omega arith)) step))
]
any_step_within a ok p (Some k) q step = step_within a ok p k q step

follow_within : (a : LetterAutomaton) → IsLetterAutomaton a → (steps : List Step) (p q : ℕ) → p < states a → Follow a p steps q → q < states a
follow_within a ok [] p q below here = subst (λ n. n < states a) here below
follow_within a ok (step ∷ rest) p q below follows = follow_within a ok rest step.to q (any_step_within a ok p step.letter step.to follows.0) follows.1

module _ (pair : Pair) (are : ArePaired pair) where
  start_within : (p : ℕ) → Contains (starts_of pair) p → p < states (joined pair)
  start_within p among =
      let count = joined_states pair are in
      elim (Contains-cons_cases pair.first.start ((states pair.first + pair.second.start) ∷ []) p among) [
        | inl here ↦ omega (arith, here, count, are.first.starts)
        | inr later ↦ elim (Contains-cons_cases (states pair.first + pair.second.start) [] p later) [
          | inl here ↦ omega (arith, here, count, are.second.starts)
          | inr none ↦ absurd (Contains-nil p none)
        ]
      ]

  -- the states of a set that a word reaches
  pub set_within : (word set : List ℕ) → Lists (LeadsFrom (joined pair) (starts_of pair) word) set → All (λ q. q < states (joined pair)) set
  set_within word set is = All-from_get_or (λ q. q < states (joined pair)) set 0 (λ i below.
      let (p, start, (steps, follows, spells)) = (is.members (get_or set i 0)).0 (Contains-get_or set i 0 below) in
      follow_within (joined pair) (joined_is pair are) steps p (get_or set i 0) (start_within p start) follows)
