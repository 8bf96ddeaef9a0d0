-- An automaton whose letters are below a number accepts words of such letters alone.
use Rattle.std.proofs.Common.{ℕ, ◌<◌, List, [], ◌∷◌, length, Option, None, Some, sym, subst, inl, inr}
use Rattle.std.specs.List.{All}
use Rattle.std.specs.Option.{option_to_list}
use Rattle.std.proofs.lemmas.Bool.{cases_lt}
use Rattle.std.proofs.lemmas.List.{get_or_past}
use Rattle.std.proofs.lemmas.List.Elements.{All-append, All-cons, All-contains, All-get_or, All-nil}
use Rattle.rela_letter_nfa.specs.LetterAutomaton.{LetterAutomaton, edges_of}
use Rattle.rela_letter_nfa.specs.Runs.{Accepts, Follow, HasStep, Step, spelled}
use Rattle.rela_letter_nfa.specs.declared.edge.LetterEdge.{LetterEdge}
use Rattle.rela_letter_paths.specs.Letters.{HasLettersBelow}

module _ (n : ℕ) (a : LetterAutomaton) (below : HasLettersBelow n a) where
  edges_below : (p : ℕ) → All (λ (edge : LetterEdge). edge.letter < n) (edges_of a p)
  edges_below p = elim (cases_lt p (length a.edges)) [
    | inl within ↦ All-get_or (All (λ (edge : LetterEdge). edge.letter < n)) a.edges p [] within below
    | inr past ↦
        subst (All (λ (edge : LetterEdge). edge.letter < n)) (sym (get_or_past a.edges p [] past)) (All-nil (λ (edge : LetterEdge). edge.letter < n))
  ]

  step_below : (p q : ℕ) (letter : Option ℕ) → HasStep a p letter q → All (λ s. s < n) (option_to_list letter)
  step_below p q None step = All-nil (λ s. s < n)
  step_below p q (Some k) step =
      All-cons (λ s. s < n) k [] (All-contains (λ (edge : LetterEdge). edge.letter < n) (edges_of a p) (record { letter = k; to = q }) (edges_below p) step) (All-nil (λ s. s < n))

  steps_below : (steps : List Step) (p q : ℕ) → Follow a p steps q → All (λ s. s < n) (spelled steps)
  steps_below [] p q here = All-nil (λ s. s < n)
  steps_below (step ∷ rest) p q follows =
      All-append (λ s. s < n) (option_to_list step.letter) (spelled rest) (step_below p step.to step.letter follows.0) (steps_below rest step.to q follows.1)

  pub words_below : (w : List ℕ) → Accepts a w → All (λ s. s < n) w
  words_below w (q, (steps, follows, spells), final) = subst (All (λ s. s < n)) spells (steps_below steps a.start q follows)
