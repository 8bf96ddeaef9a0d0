-- A transducer that another is built of.
use Rattle.std.proofs.Common.{◌≡◌, ℕ, ◌+◌, ◌<◌, ◌≤◌, ◌⊎◌, Bool, false, cond, List, [], ◌∷◌, ◌++◌, length, get_or, map, Option, None, Some, refl, sym, ap, ◌∙◌, subst, inl, inr, arith}
use Rattle.std.specs.List.{All, Contains, range_with_len}
use Rattle.std.specs.Option.{ForSome, option_to_list}
use Rattle.std.proofs.lemmas.Bool.{cases_Bool, cases_lt, cond_both}
use Rattle.std.proofs.lemmas.List.{get_or_past}
use Rattle.std.proofs.lemmas.List.Elements.{All-nil, All-cons, All-append, All-map, All-weaker, All-contains}
use Rattle.std.proofs.lemmas.List.FromFn.{get_or-map-range_with_len, length-map-range_with_len}
use Rattle.rela_trans.specs.Machine.{Machine, IsMachine, IsMove, IsFinal, moves_of, machine_states}
use Rattle.rela_trans.specs.Runs.{StepIn, HasStep, ReachR}
use Rattle.rela_trans.specs.Construction.{shifted, silent, leaving, copied}
use Rattle.rela_trans.specs.declared.moves.Move.{Move}
use Rattle.rela_trans.proofs.Accessors.{moves_ok}
use Rattle.rela_trans.proofs.ListLaws.{Contains-cons_cases, Contains-nil, get_or_block, get_or_last}
use Rattle.rela_trans.proofs.Reaching.{reach_each}
use Rattle.rela_trans.proofs.Steps.{no_step, step_left, step_right, step_cases, silent_step, silent_step_only, shifted_step, shifted_step_back}

-- the states of a stand in r from `by` on, and those that are final lead silently to the exit
pub record IsPart (a : Machine) (by : ℕ) (exit : Option ℕ) (r : Machine) : Type 0 where
  pub standing : (p : ℕ) → p < machine_states a → moves_of r (by + p) ≡ leaving a by exit p

pub length-copied : (a : Machine) (by : ℕ) (exit : Option ℕ) → length (copied a by exit) ≡ machine_states a
length-copied a by exit = length-map-range_with_len (leaving a by exit) 0 (machine_states a)

pub get_or-copied : (a : Machine) (by : ℕ) (exit : Option ℕ) (p : ℕ) → p < machine_states a → get_or (copied a by exit) p [] ≡ leaving a by exit p
get_or-copied a by exit p below = get_or-map-range_with_len (leaving a by exit) 0 (machine_states a) p p [] below (omega arith)

-- it stands so where its copied moves follow those of `by` states
pub part_at : (a r : Machine) (by : ℕ) (exit : Option ℕ) (front rest : List (List (Move (List Bool)))) → length front ≡ by → r.moves ≡ front ++ copied a by exit ++ rest
    → IsPart a by exit r
part_at a r by exit front rest len moves = record {
  standing = λ p below.
      let here : p < length (copied a by exit) = omega (arith, length-copied a by exit) in
      ap (λ l. get_or l (by + p) []) moves ∙ get_or_block front (copied a by exit) rest by p [] len here ∙ get_or-copied a by exit p below;
}

pub part_last : (a r : Machine) (by : ℕ) (exit : Option ℕ) (front : List (List (Move (List Bool)))) → length front ≡ by → r.moves ≡ front ++ copied a by exit
    → IsPart a by exit r
part_last a r by exit front len moves = record {
  standing = λ p below. ap (λ l. get_or l (by + p) []) moves ∙ get_or_last front (copied a by exit) by p [] len ∙ get_or-copied a by exit p below;
}

pub leads_to_state : (read : ℕ → ℕ) (a : Machine) → IsMachine a → (p q : ℕ) (input output : List ℕ) → HasStep read a p input output q → q < machine_states a
leads_to_state read a ok p q input output step = (All-contains (IsMove a.letters (machine_states a)) (moves_of a p) _ (moves_ok a ok p) step.1).leads

-- only states are reached
pub state_of_reach : (read : ℕ → ℕ) (a : Machine) → IsMachine a → (q : ℕ) (u v : List ℕ) → ReachR read a q u v → q < machine_states a
state_of_reach read a ok =
    reach_each read a (λ q u v. q < machine_states a) (λ p q u v input output reach below step. leads_to_state read a ok p q input output step) ok.starts

-- silent moves to states
pub silents_ok : (letters n : ℕ) (ends : List ℕ) → All (λ t. t < n) ends → All (IsMove letters n) (map silent ends)
silents_ok letters n ends within =
    All-map (IsMove letters n) silent ends (All-weaker (λ t. t < n) (λ t. IsMove letters n (silent t)) (λ t below. record { sized = tt; leads = below }) ends within)

silent_ok : (letters n : ℕ) (exit : Option ℕ) → ForSome exit (λ t. t < n) → All (IsMove letters n) (map silent (option_to_list exit))
silent_ok letters n None within = All-nil (IsMove letters n)
silent_ok letters n (Some t) within = silents_ok letters n (t ∷ []) (All-cons (λ k. k < n) t [] (within t refl) (All-nil (λ k. k < n)))

-- copied moves lead to the states of a transducer with room for them
pub copied_ok : (a : Machine) (by : ℕ) (exit : Option ℕ) (n : ℕ) → IsMachine a → by + machine_states a ≤ n → ForSome exit (λ t. t < n)
    → All (All (IsMove a.letters n)) (copied a by exit)
copied_ok a by exit n ok room within =
    All-map (All (IsMove a.letters n)) (leaving a by exit) (range_with_len 0 (machine_states a)) (λ k d below. one (get_or (range_with_len 0 (machine_states a)) k d))
  where
    one : (p : ℕ) → All (IsMove a.letters n) (leaving a by exit p)
    one p =
        All-append (IsMove a.letters n) (map (shifted by) (moves_of a p)) (cond (get_or a.finals p false) (map silent (option_to_list exit)) [])
        (All-map (IsMove a.letters n) (shifted by) (moves_of a p)
        (All-weaker (IsMove a.letters (machine_states a)) (λ m. IsMove a.letters n (shifted by m)) (λ m is. record { sized = is.sized; leads = omega (arith, is.leads) }) (moves_of a p) (moves_ok a ok p)))
        (cond_both (get_or a.finals p false) _ _ (All (IsMove a.letters n)) (λ _. silent_ok a.letters n exit within) (λ _. All-nil (IsMove a.letters n)))

-- only states have moves
pub state_of_step : (read : ℕ → ℕ) (a : Machine) → IsMachine a → (p q : ℕ) (input output : List ℕ) → HasStep read a p input output q → p < machine_states a
state_of_step read a ok p q input output step = elim (cases_lt p (machine_states a)) [
  | inl below ↦ below
  | inr past ↦ absurd (no_step read input output q (subst (λ l. StepIn read l input output q) (get_or_past a.moves p [] (omega (arith, ok.each))) step))
]

module _ (read : ℕ → ℕ) (a r : Machine) (by : ℕ) (exit : Option ℕ) (ok : IsMachine a) (part : IsPart a by exit r) where
  pub part_step : (p q : ℕ) (input output : List ℕ) → HasStep read a p input output q → HasStep read r (by + p) input output (by + q)
  part_step p q input output step =
      subst (λ l. StepIn read l input output (by + q)) (sym (part.standing p (state_of_step read a ok p q input output step)))
      (step_left read input output (by + q) (map (shifted by) (moves_of a p)) _ (shifted_step read input output q by (moves_of a p) step))

  pub part_exit : (p t : ℕ) → p < machine_states a → IsFinal a p → exit ≡ Some t → HasStep read r (by + p) [] [] t
  part_exit p t below final exits =
      let out : List (Move (List Bool)) = map silent (option_to_list exit) in
      let step : StepIn read out [] [] t = subst (λ o. StepIn read (map silent (option_to_list o)) [] [] t) (sym exits) (silent_step read (t ∷ []) t (0, omega arith, refl)) in
      subst (λ l. StepIn read l [] [] t) (sym (part.standing p below))
      (step_right read [] [] t (map (shifted by) (moves_of a p)) (cond (get_or a.finals p false) out []) (subst (λ b. StepIn read (cond b out []) [] [] t) (sym final) step))

  pub part_cases : (p q : ℕ) (input output : List ℕ) → p < machine_states a → HasStep read r (by + p) input output q
      → ((n : ℕ) × (by + n ≡ q) × HasStep read a p input output n) ⊎ (IsFinal a p × (input ≡ []) × (output ≡ []) × (exit ≡ Some q))
  part_cases p q input output below step =
      let out : List (Move (List Bool)) = map silent (option_to_list exit) in
      elim (step_cases read input output q (map (shifted by) (moves_of a p)) (cond (get_or a.finals p false) out []) (subst (λ l. StepIn read l input output q) (part.standing p below) step)) [
        | inl own ↦ inl (shifted_step_back read input output q by (moves_of a p) own)
        | inr leaves ↦ elim (cases_Bool (get_or a.finals p false)) [
          | inl final ↦
              let only = silent_step_only read input output q (option_to_list exit) (subst (λ b. StepIn read (cond b out []) input output q) final leaves) in
              inr (final, only.0, only.1, only_exit exit q only.2)
          | inr other ↦ absurd (no_step read input output q (subst (λ b. StepIn read (cond b out []) input output q) other leaves))
        ]
      ]
    where
      only_exit : (o : Option ℕ) (q : ℕ) → Contains (option_to_list o) q → o ≡ Some q
      only_exit None q c = absurd (Contains-nil q c)
      only_exit (Some t) q c = elim (Contains-cons_cases t [] q c) [ inl same ↦ ap Some same | inr other ↦ absurd (Contains-nil q other) ]
