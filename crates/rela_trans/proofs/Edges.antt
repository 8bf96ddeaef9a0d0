-- Edges of an automaton, and the words to which they lead.
use Rattle.std.proofs.Common.{◌≡◌, ℕ, Bool, true, List, [], ◌∷◌, ◌++◌, Option, None, Some, inl, inr, refl, sym, ap, ◌∙◌, subst, arith, append_assoc}
use Rattle.std.specs.List.{All, Contains}
use Rattle.std.specs.Option.{option_to_list}
use Rattle.std.proofs.lemmas.Bool.{cases_lt, false≢true}
use Rattle.std.proofs.lemmas.List.{append-nil, get_or_past}
use Rattle.std.proofs.lemmas.List.Elements.{All-nil}
use Rattle.rela_nfa.specs.Automaton.{Automaton, Move as Edge, IsAutomaton, IsMove as IsEdge, moves_of as edges_of, states}
use Rattle.rela_nfa.specs.Reading.{takes}
use Rattle.rela_nfa.specs.Runs.{Step, StepIn as EdgeIn, HasStep as HasEdge, Follow, spelled, Reach}

-- the edges of a state lead to states, by labels of the right size
pub edges_ok : (a : Automaton) → IsAutomaton a → (p : ℕ) → All (IsEdge a.letters (states a)) (edges_of a p)
edges_ok a ok p = elim (cases_lt p (states a)) [
  | inl below ↦ ok.moves p [] (omega (arith, ok.each))
  | inr past ↦ subst (λ l. All (IsEdge a.letters (states a)) l) (sym (get_or_past a.edges p [] (omega (arith, ok.each)))) (All-nil (IsEdge a.letters (states a)))
]

-- ---- a step is an edge that takes the letter

pub step_edge : (edges : List Edge) (letter : Option ℕ) (q : ℕ) → EdgeIn edges letter q → (m : Edge) × Contains edges m × (m.to ≡ q) × (takes m.label letter ≡ true)
step_edge edges None q step = (record { label = None; to = q }, step, refl, refl)
step_edge edges (Some k) q step = (record { label = Some step.0; to = q }, step.1, refl, step.2)

labelled_step : (edges : List Edge) (label : Option (List Bool)) (to : ℕ) (letter : Option ℕ) → Contains edges (record { label = label; to = to }) → takes label letter ≡ true → EdgeIn edges letter to
labelled_step edges None to None among taken = among
labelled_step edges None to (Some k) among taken = absurd (false≢true taken)
labelled_step edges (Some set) to None among taken = absurd (false≢true taken)
labelled_step edges (Some set) to (Some k) among taken = (set, among, taken)

pub edge_step : (edges : List Edge) (letter : Option ℕ) (m : Edge) → Contains edges m → takes m.label letter ≡ true → EdgeIn edges letter m.to
edge_step edges letter m among taken = labelled_step edges m.label m.to letter among taken

-- ---- words

spelled_push : (steps : List Step) (letter : Option ℕ) (q : ℕ) → spelled (steps ++ record { letter = letter; to = q } ∷ []) ≡ spelled steps ++ option_to_list letter
spelled_push [] letter q = append-nil (option_to_list letter)
spelled_push (first ∷ rest) letter q =
    ap (λ l. option_to_list first.letter ++ l) (spelled_push rest letter q) ∙ sym (append_assoc (option_to_list first.letter) (spelled rest) (option_to_list letter))

module _ (a : Automaton) where
  follow_push : (x p q : ℕ) (letter : Option ℕ) (steps : List Step) → Follow a x steps p → HasEdge a p letter q → Follow a x (steps ++ record { letter = letter; to = q } ∷ []) q
  follow_push x p q letter [] here step = (subst (λ n. HasEdge a n letter q) (sym here) step, refl)
  follow_push x p q letter (first ∷ rest) follows step = (follows.0, follow_push first.to p q letter rest follows.1 step)

  -- the empty word reaches the start
  pub word_start : Reach a a.start []
  word_start = ([], refl, refl)

  -- an edge leads on
  pub word_step : (p q : ℕ) (letter : Option ℕ) (word : List ℕ) → Reach a p word → HasEdge a p letter q → Reach a q (word ++ option_to_list letter)
  word_step p q letter word reach step =
      (reach.0 ++ record { letter = letter; to = q } ∷ [], follow_push a.start p q letter reach.0 reach.1 step, spelled_push reach.0 letter q ∙ ap (λ w. w ++ option_to_list letter) reach.2)

  module _ (P : ℕ → List ℕ → Type 0)
      (kept : (p q : ℕ) (letter : Option ℕ) (word : List ℕ) → Reach a p word → P p word → HasEdge a p letter q → P q (word ++ option_to_list letter)) where
    follow_each : (steps : List Step) (p q : ℕ) (word : List ℕ) → Reach a p word → P p word → Follow a p steps q → P q (word ++ spelled steps)
    follow_each [] p q word reach holds here = subst (λ n. P n (word ++ [])) here (subst (λ w. P p w) (sym (append-nil word)) holds)
    follow_each (first ∷ rest) p q word reach holds follows =
        subst (λ w. P q w) (append_assoc word (option_to_list first.letter) (spelled rest))
        (follow_each rest first.to q (word ++ option_to_list first.letter) (word_step p first.to first.letter word reach follows.0)
        (kept p first.to first.letter word reach holds follows.0) follows.1)

    -- what holds at the start and is kept by each edge holds of all that is reached
    pub word_each : P a.start [] → (q : ℕ) (word : List ℕ) → Reach a q word → P q word
    word_each starts q word reach = subst (λ w. P q w) reach.2 (follow_each reach.0 a.start q [] word_start starts reach.1)
