-- The words of an automaton with one letter on each edge are those of the one that it is made of.
use Rattle.std.proofs.Common.{◌≡◌, ℕ, ◌↔◌, List, [], ◌∷◌, ◌++◌, map, refl, sym, ap, ◌∙◌, subst}
use Rattle.std.specs.Option.{option_to_list}
use Rattle.rela_letter_nfa.specs.LetterAutomaton.{LetterAutomaton}
use Rattle.rela_letter_nfa.specs.Runs.{Accepts as AcceptsLetters, Follow as FollowLetters, Step as LetterStep, spelled as spelled_letters}
use Rattle.rela_nfa.specs.Automaton.{Automaton}
use Rattle.rela_nfa.specs.Runs.{Accepts, Follow, Step, spelled}
use Rattle.rela_letter_image.specs.ByLetters.{IsByLetters}

-- the same step
abbrev of_letter : LetterStep → Step
of_letter step = record { letter = step.letter; to = step.to }

abbrev to_letter : Step → LetterStep
to_letter step = record { letter = step.letter; to = step.to }

spelled_of : (steps : List LetterStep) → spelled (map of_letter steps) ≡ spelled_letters steps
spelled_of [] = refl
spelled_of (step ∷ rest) = ap (λ l. option_to_list step.letter ++ l) (spelled_of rest)

spelled_to : (steps : List Step) → spelled_letters (map to_letter steps) ≡ spelled steps
spelled_to [] = refl
spelled_to (step ∷ rest) = ap (λ l. option_to_list step.letter ++ l) (spelled_to rest)

module _ (a : Automaton) (b : LetterAutomaton) (same : IsByLetters a b) where
  follow_of : (steps : List LetterStep) (p q : ℕ) → FollowLetters b p steps q → Follow a p (map of_letter steps) q
  follow_of [] p q here = here
  follow_of (step ∷ rest) p q follows = ((same.steps p step.to step.letter).0 follows.0, follow_of rest step.to q follows.1)

  follow_to : (steps : List Step) (p q : ℕ) → Follow a p steps q → FollowLetters b p (map to_letter steps) q
  follow_to [] p q here = here
  follow_to (step ∷ rest) p q follows = ((same.steps p step.to step.letter).1 follows.0, follow_to rest step.to q follows.1)

  pub letter_words : (word : List ℕ) → AcceptsLetters b word ↔ Accepts a word
  letter_words word = (
    λ (q, (steps, follows, spells), final). (
      q,
      (map of_letter steps, subst (λ p. Follow a p (map of_letter steps) q) same.start (follow_of steps b.start q follows), spelled_of steps ∙ spells),
      (same.final q).0 final,
    ),
    λ (q, (steps, follows, spells), final). (
      q,
      (map to_letter steps, subst (λ p. FollowLetters b p (map to_letter steps) q) (sym same.start) (follow_to steps a.start q follows), spelled_to steps ∙ spells),
      (same.final q).1 final,
    ),
  )
