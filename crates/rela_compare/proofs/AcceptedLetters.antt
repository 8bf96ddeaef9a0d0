-- The letters of the words that an automaton accepts.
use Rattle.std.proofs.Common.{◌≡◌, ℕ, ◌<◌, true, false, Bool, List, [], ◌∷◌, ◌++◌, length, Option, None, Some, refl, sym, subst, ◌∙◌, inl, inr, arith}
use Rattle.std.specs.List.{All}
use Rattle.std.specs.Option.{option_to_list}
use Rattle.std.proofs.lemmas.Bool.{cases_lt, false≢true}
use Rattle.std.proofs.lemmas.List.{get_or_past}
use Rattle.std.proofs.lemmas.List.Elements.{All-cons, All-contains, All-get_or, All-nil}
use Rattle.rela_labels.specs.Letters.{has}
use Rattle.rela_nfa.specs.Automaton.{Automaton, IsAutomaton, IsMove, moves_of, states}
use Rattle.rela_nfa.specs.Runs.{Accepts, Follow, HasStep, Step, spelled}
use Rattle.rela_compare.proofs.Members.{Contains-nil}

-- a letter of a set is below its size
pub below_size : (set : List Bool) (k : ℕ) → has set k ≡ true → k < length set
below_size set k among = elim (cases_lt k (length set)) [
  | inl below ↦ below
  | inr past ↦ absurd (false≢true (sym (get_or_past set k false past) ∙ among))
]

module _ (a : Automaton) (ok : IsAutomaton a) where
  step_letter : (p q k : ℕ) → HasStep a p (Some k) q → k < a.letters
  step_letter p q k (set, among, reads) = elim (cases_lt p (length a.edges)) [
    | inl below ↦
        let all : All (IsMove a.letters (states a)) (moves_of a p) = All-get_or (All (IsMove a.letters (states a))) a.edges p [] below ok.moves in
        let sized = (All-contains (IsMove a.letters (states a)) (moves_of a p) (record { label = Some set; to = q }) all among).sized set refl in
        let within = below_size set k reads in
        omega arith
    | inr past ↦
        let none : moves_of a p ≡ [] = get_or_past a.edges p [] past in
        absurd (Contains-nil (record { label = Some set; to = q }) (rw none at among))
  ]

  with_letter : (p q : ℕ) (letter : Option ℕ) (word : List ℕ) → HasStep a p letter q → All (λ k. k < a.letters) word → All (λ k. k < a.letters) (option_to_list letter ++ word)
  with_letter p q None word step below = below
  with_letter p q (Some k) word step below = All-cons (λ k. k < a.letters) k word (step_letter p q k step) below

  run_letters : (steps : List Step) (p q : ℕ) → Follow a p steps q → All (λ k. k < a.letters) (spelled steps)
  run_letters [] p q here = All-nil (λ k. k < a.letters)
  run_letters (step ∷ rest) p q follows = with_letter p step.to step.letter (spelled rest) follows.0 (run_letters rest step.to q follows.1)

  -- each letter of an accepted word is one of the automaton's
  pub accepted_letters : (word : List ℕ) → Accepts a word → All (λ k. k < a.letters) word
  accepted_letters word (q, (steps, follows, spells), final) = subst (All (λ k. k < a.letters)) spells (run_letters steps a.start q follows)
