-- An automaton that another is built of.
use Rattle.std.proofs.Common.{◌≡◌, ℕ, ◌+◌, ◌<◌, ◌≤◌, ◌⊎◌, false, cond, List, [], ◌∷◌, ◌++◌, length, get_or, map, Option, None, Some, refl, sym, ap, ◌∙◌, subst, inl, inr, arith, length-append}
use Rattle.std.specs.List.{All, Contains, range_with_len}
use Rattle.std.specs.Option.{ForSome, option_to_list}
use Rattle.std.proofs.lemmas.Bool.{cases_Bool, cases_lt, cond_both}
use Rattle.std.proofs.lemmas.List.{append-nil, get_or_append_left, get_or-append-add, get_or_past}
use Rattle.std.proofs.lemmas.List.Elements.{All-nil, All-cons, All-append, All-map, All-weaker, All-contains}
use Rattle.std.proofs.lemmas.List.FromFn.{get_or-map-range_with_len, length-map-range_with_len}
use Rattle.rela_nfa.specs.Automaton.{Automaton, Move, IsAutomaton, IsMove, IsFinal, moves_of, states}
use Rattle.rela_nfa.specs.Runs.{StepIn, HasStep, Reach}
use Rattle.rela_nfa.specs.Construction.{shifted, silent, leaving, copied}
use Rattle.rela_nfa.proofs.Reaching.{reach_each}
use Rattle.rela_nfa.proofs.Moves.{no_step, step_left, step_right, step_cases, silent_step, silent_step_only, shifted_step, shifted_step_back, Contains-cons_cases, Contains-nil}

-- the states of a stand in r from `by` on, and those that are final lead silently to the exit
pub record IsPart (a : Automaton) (by : ℕ) (exit : Option ℕ) (r : Automaton) : Type 0 where
  pub standing : (p : ℕ) → p < states a → moves_of r (by + p) ≡ leaving a by exit p

-- a list that stands in another after so many elements
pub get_or_block : {X : Type 0} (front xs rest : List X) (by p : ℕ) (d : X) → length front ≡ by → p < length xs → get_or (front ++ xs ++ rest) (by + p) d ≡ get_or xs p d
get_or_block front xs rest by p d len below =
    let in_front : by + p < length (front ++ xs) = omega (arith, length-append front xs) in
    get_or_append_left (front ++ xs) rest d (by + p) in_front ∙ subst (λ n. get_or (front ++ xs) (n + p) d ≡ get_or xs p d) len (get_or-append-add front xs p d)

-- one that stands at the end
pub get_or_last : {X : Type 0} (front xs : List X) (by p : ℕ) (d : X) → length front ≡ by → get_or (front ++ xs) (by + p) d ≡ get_or xs p d
get_or_last front xs by p d len = subst (λ n. get_or (front ++ xs) (n + p) d ≡ get_or xs p d) len (get_or-append-add front xs p d)

pub length-copied : (a : Automaton) (by : ℕ) (exit : Option ℕ) → length (copied a by exit) ≡ states a
length-copied a by exit = length-map-range_with_len (leaving a by exit) 0 (states a)

pub get_or-copied : (a : Automaton) (by : ℕ) (exit : Option ℕ) (p : ℕ) → p < states a → get_or (copied a by exit) p [] ≡ leaving a by exit p
get_or-copied a by exit p below = get_or-map-range_with_len (leaving a by exit) 0 (states a) p p [] below (omega arith)

-- it stands so where its copied edges follow those of `by` states
pub part_at : (a r : Automaton) (by : ℕ) (exit : Option ℕ) (front rest : List (List Move)) → length front ≡ by → r.edges ≡ front ++ copied a by exit ++ rest
    → IsPart a by exit r
part_at a r by exit front rest len edges = record {
  standing = λ p below.
      let here : p < length (copied a by exit) = omega (arith, length-copied a by exit) in
      ap (λ l. get_or l (by + p) []) edges ∙ get_or_block front (copied a by exit) rest by p [] len here ∙ get_or-copied a by exit p below;
}

pub part_last : (a r : Automaton) (by : ℕ) (exit : Option ℕ) (front : List (List Move)) → length front ≡ by → r.edges ≡ front ++ copied a by exit
    → IsPart a by exit r
part_last a r by exit front len edges = record {
  standing = λ p below. ap (λ l. get_or l (by + p) []) edges ∙ get_or_last front (copied a by exit) by p [] len ∙ get_or-copied a by exit p below;
}

-- the edges of a state lead to states, by labels of the right size
pub moves_ok : (a : Automaton) → IsAutomaton a → (p : ℕ) → All (IsMove a.letters (states a)) (moves_of a p)
moves_ok a ok p = elim (cases_lt p (states a)) [
  | inl below ↦ ok.moves p [] (omega (arith, ok.each))
  | inr past ↦ subst (λ l. All (IsMove a.letters (states a)) l) (sym (get_or_past a.edges p [] (omega (arith, ok.each)))) (All-nil (IsMove a.letters (states a)))
]

pub leads_to_state : (a : Automaton) → IsAutomaton a → (p q : ℕ) (letter : Option ℕ) → HasStep a p letter q → q < states a
leads_to_state a ok p q None step = (All-contains (IsMove a.letters (states a)) (moves_of a p) _ (moves_ok a ok p) step).leads
leads_to_state a ok p q (Some k) step = (All-contains (IsMove a.letters (states a)) (moves_of a p) _ (moves_ok a ok p) step.1).leads

-- only states are reached
pub state_of_reach : (a : Automaton) → IsAutomaton a → (q : ℕ) (word : List ℕ) → Reach a q word → q < states a
state_of_reach a ok = reach_each a (λ q word. q < states a) (λ p q letter word reach below step. leads_to_state a ok p q letter step) ok.starts

-- silent edges to states
pub silents_ok : (letters n : ℕ) (ends : List ℕ) → All (λ t. t < n) ends → All (IsMove letters n) (map silent ends)
silents_ok letters n ends within =
    All-map (IsMove letters n) silent ends (All-weaker (λ t. t < n) (λ t. IsMove letters n (silent t)) (λ t below. record { sized = λ set e. cc; leads = below }) ends within)

silent_ok : (letters n : ℕ) (exit : Option ℕ) → ForSome exit (λ t. t < n) → All (IsMove letters n) (map silent (option_to_list exit))
silent_ok letters n None within = All-nil (IsMove letters n)
silent_ok letters n (Some t) within = silents_ok letters n (t ∷ []) (All-cons (λ k. k < n) t [] (within t refl) (All-nil (λ k. k < n)))

-- copied edges lead to the states of an automaton with room for them
pub copied_ok : (a : Automaton) (by : ℕ) (exit : Option ℕ) (n : ℕ) → IsAutomaton a → by + states a ≤ n → ForSome exit (λ t. t < n)
    → All (All (IsMove a.letters n)) (copied a by exit)
copied_ok a by exit n ok room within =
    All-map (All (IsMove a.letters n)) (leaving a by exit) (range_with_len 0 (states a)) (λ k d below. one (get_or (range_with_len 0 (states a)) k d))
  where
    one : (p : ℕ) → All (IsMove a.letters n) (leaving a by exit p)
    one p =
        All-append (IsMove a.letters n) (map (shifted by) (moves_of a p)) (cond (get_or a.finals p false) (map silent (option_to_list exit)) [])
        (All-map (IsMove a.letters n) (shifted by) (moves_of a p)
        (All-weaker (IsMove a.letters (states a)) (λ m. IsMove a.letters n (shifted by m)) (λ m is. record { sized = is.sized; leads = omega (arith, is.leads) }) (moves_of a p) (moves_ok a ok p)))
        (cond_both (get_or a.finals p false) _ _ (All (IsMove a.letters n)) (λ _. silent_ok a.letters n exit within) (λ _. All-nil (IsMove a.letters n)))

pub leaving_with_exit : (a : Automaton) (by q t : ℕ) → IsFinal a q → leaving a by (Some t) q ≡ map (shifted by) (moves_of a q) ++ silent t ∷ []
leaving_with_exit a by q t final = ap (λ b. map (shifted by) (moves_of a q) ++ cond b (silent t ∷ []) []) final

pub leaving_without_exit : (a : Automaton) (by q : ℕ) → leaving a by None q ≡ map (shifted by) (moves_of a q)
leaving_without_exit a by q =
    cond_both (get_or a.finals q false) [] [] (λ l. map (shifted by) (moves_of a q) ++ l ≡ map (shifted by) (moves_of a q))
    (λ _. append-nil (map (shifted by) (moves_of a q))) (λ _. append-nil (map (shifted by) (moves_of a q)))

pub leaving_unless_final : (a : Automaton) (by : ℕ) (exit : Option ℕ) (q : ℕ) → get_or a.finals q false ≡ false → leaving a by exit q ≡ map (shifted by) (moves_of a q)
leaving_unless_final a by exit q other =
    ap (λ b. map (shifted by) (moves_of a q) ++ cond b (map silent (option_to_list exit)) []) other ∙ append-nil (map (shifted by) (moves_of a q))

-- only states have edges
pub state_of_step : (a : Automaton) → IsAutomaton a → (p q : ℕ) (letter : Option ℕ) → HasStep a p letter q → p < states a
state_of_step a ok p q letter step = elim (cases_lt p (states a)) [
  | inl below ↦ below
  | inr past ↦ absurd (no_step letter q (subst (λ l. StepIn l letter q) (get_or_past a.edges p [] (omega (arith, ok.each))) step))
]

module _ (a r : Automaton) (by : ℕ) (exit : Option ℕ) (ok : IsAutomaton a) (part : IsPart a by exit r) where
  pub part_step : (p q : ℕ) (letter : Option ℕ) → HasStep a p letter q → HasStep r (by + p) letter (by + q)
  part_step p q letter step =
      subst (λ l. StepIn l letter (by + q)) (sym (part.standing p (state_of_step a ok p q letter step)))
      (step_left (map (shifted by) (moves_of a p)) _ letter (by + q) (shifted_step by (moves_of a p) letter q step))

  pub part_exit : (p t : ℕ) → p < states a → IsFinal a p → exit ≡ Some t → HasStep r (by + p) None t
  part_exit p t below final exits =
      let out : List Move = map silent (option_to_list exit) in
      let step : StepIn out None t = subst (λ o. StepIn (map silent (option_to_list o)) None t) (sym exits) (silent_step (t ∷ []) t (0, omega arith, refl)) in
      subst (λ l. StepIn l None t) (sym (part.standing p below))
      (step_right (map (shifted by) (moves_of a p)) (cond (get_or a.finals p false) out []) None t (subst (λ b. StepIn (cond b out []) None t) (sym final) step))

  pub part_cases : (p q : ℕ) (letter : Option ℕ) → p < states a → HasStep r (by + p) letter q
      → ((n : ℕ) × (by + n ≡ q) × HasStep a p letter n) ⊎ (IsFinal a p × (letter ≡ None) × (exit ≡ Some q))
  part_cases p q letter below step =
      let out : List Move = map silent (option_to_list exit) in
      elim (step_cases (map (shifted by) (moves_of a p)) (cond (get_or a.finals p false) out []) letter q (subst (λ l. StepIn l letter q) (part.standing p below) step)) [
        | inl own ↦ inl (shifted_step_back by (moves_of a p) letter q own)
        | inr leaves ↦ elim (cases_Bool (get_or a.finals p false)) [
          | inl final ↦
              let only = silent_step_only (option_to_list exit) letter q (subst (λ b. StepIn (cond b out []) letter q) final leaves) in
              inr (final, only.0, only_exit exit q only.1)
          | inr other ↦ absurd (no_step letter q (subst (λ b. StepIn (cond b out []) letter q) other leaves))
        ]
      ]
    where
      only_exit : (o : Option ℕ) (q : ℕ) → Contains (option_to_list o) q → o ≡ Some q
      only_exit None q c = absurd (Contains-nil q c)
      only_exit (Some t) q c = elim (Contains-cons_cases t [] q c) [ inl same ↦ ap Some same | inr other ↦ absurd (Contains-nil q other) ]
