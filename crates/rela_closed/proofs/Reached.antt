-- What an automaton reaches is the least relation that the start begins and that edges carry on.
use Rattle.std.proofs.Common.{◌≡◌, ℕ, List, [], ◌∷◌, ◌++◌, Option, None, refl, sym, ap, ◌∙◌, subst, append_assoc}
use Rattle.std.specs.Option.{option_to_list}
use Rattle.std.proofs.lemmas.List.{append-nil}
use Rattle.rela_nfa.specs.Automaton.{Automaton}
use Rattle.rela_nfa.specs.Runs.{Step, HasStep, Follow, spelled, Reach}

module _ (a : Automaton) where
  follow_push : (x p q : ℕ) (letter : Option ℕ) (steps : List Step) → Follow a x steps p → HasStep a p letter q → Follow a x (steps ++ record { letter = letter; to = q } ∷ []) q
  follow_push x p q letter [] here step = (subst (λ n. HasStep a n letter q) (sym here) step, refl)
  follow_push x p q letter (first ∷ rest) follows step = (follows.0, follow_push first.to p q letter rest follows.1 step)

spelled_push : (steps : List Step) (letter : Option ℕ) (q : ℕ) → spelled (steps ++ record { letter = letter; to = q } ∷ []) ≡ spelled steps ++ option_to_list letter
spelled_push [] letter q = append-nil (option_to_list letter)
spelled_push (first ∷ rest) letter q =
    ap (λ l. option_to_list first.letter ++ l) (spelled_push rest letter q) ∙ sym (append_assoc (option_to_list first.letter) (spelled rest) (option_to_list letter))

-- the empty word reaches the start
pub reach_start : (a : Automaton) → Reach a a.start []
reach_start a = ([], refl, refl)

-- an edge leads on
pub reach_step : (a : Automaton) (p q : ℕ) (letter : Option ℕ) (word : List ℕ) → Reach a p word → HasStep a p letter q → Reach a q (word ++ option_to_list letter)
reach_step a p q letter word reach step =
    (reach.0 ++ record { letter = letter; to = q } ∷ [], follow_push a a.start p q letter reach.0 reach.1 step, spelled_push reach.0 letter q ∙ ap (λ w. w ++ option_to_list letter) reach.2)

-- a silent edge leads on by the same word
pub reach_silent : (a : Automaton) (p q : ℕ) (word : List ℕ) → Reach a p word → HasStep a p None q → Reach a q word
reach_silent a p q word reach step = subst (λ w. Reach a q w) (append-nil word) (reach_step a p q None word reach step)

-- at the end of a word, P holds of the state and what was read
abbrev KeptBy : Automaton → (ℕ → List ℕ → Type 0) → Type 0
KeptBy a P = (p q : ℕ) (letter : Option ℕ) (word : List ℕ) → Reach a p word → P p word → HasStep a p letter q → P q (word ++ option_to_list letter)

module _ (a : Automaton) (P : ℕ → List ℕ → Type 0) (kept : KeptBy a P) where
  follow_each : (steps : List Step) (p q : ℕ) (word : List ℕ) → Reach a p word → P p word → Follow a p steps q → P q (word ++ spelled steps)
  follow_each [] p q word reach holds here = subst (λ n. P n (word ++ [])) here (subst (λ w. P p w) (sym (append-nil word)) holds)
  follow_each (first ∷ rest) p q word reach holds follows =
      subst (λ w. P q w) (append_assoc word (option_to_list first.letter) (spelled rest))
      (follow_each rest first.to q (word ++ option_to_list first.letter) (reach_step a p first.to first.letter word reach follows.0)
      (kept p first.to first.letter word reach holds follows.0) follows.1)

  -- what holds at the start and is kept by each edge holds of all that is reached
  pub reach_each : P a.start [] → (q : ℕ) (word : List ℕ) → Reach a q word → P q word
  reach_each starts q word reach = subst (λ w. P q w) reach.2 (follow_each reach.0 a.start q [] (reach_start a) starts reach.1)
