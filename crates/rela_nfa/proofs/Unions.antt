-- What the union of two automata reaches and accepts.
use Rattle.std.proofs.Common.{◌≡◌, ℕ, ◌+◌, ◌<◌, ◌⊎◌, ◌↔◌, false, List, [], ◌∷◌, ◌++◌, length, get_or, map, Option, None, refl, sym, ap, ◌∙◌, subst, inl, inr, arith, length-append}
use Rattle.std.specs.List.{All, Contains}
use Rattle.std.proofs.lemmas.List.Elements.{All-nil, All-cons, All-append}
use Rattle.std.specs.Option.{option_to_list}
use Rattle.rela_nfa.specs.Automaton.{Automaton, Move, IsMove, IsAutomaton, IsFinal, moves_of, states}
use Rattle.rela_nfa.specs.Runs.{StepIn, HasStep, Reach, Accepts}
use Rattle.rela_nfa.specs.Construction.{silent, copied}
use Rattle.rela_nfa.proofs.Moves.{silent_step, silent_step_only, Contains-cons_cases, Contains-nil}
use Rattle.rela_nfa.proofs.Parts.{IsPart, part_at, part_last, part_step, part_cases, get_or_block, get_or_last, leads_to_state, state_of_reach, length-copied, copied_ok, silents_ok}
use Rattle.rela_nfa.proofs.Reaching.{reach_start, reach_step, reach_silent, reach_each, reach_renamed}

-- a start of its own, from which the starts of both are entered, and then the states of both
pub record IsUnion (a b r : Automaton) : Type 0 where
  pub letters : r.letters ≡ a.letters
  pub same_letters : b.letters ≡ a.letters
  pub start : r.start ≡ 0
  pub edges : r.edges ≡ map silent ((1 + a.start) ∷ (1 + states a + b.start) ∷ []) ∷ [] ++ copied a 1 None ++ copied b (1 + states a) None
  pub finals : r.finals ≡ false ∷ [] ++ a.finals ++ b.finals

module _ (a b r : Automaton) (ok_a : IsAutomaton a) (ok_b : IsAutomaton b) (built : IsUnion a b r) where
  abbrev Ends : List ℕ
  Ends = (1 + a.start) ∷ (1 + states a + b.start) ∷ []

  first_part : IsPart a 1 None r
  first_part = part_at a r 1 None (map silent Ends ∷ []) (copied b (1 + states a) None) refl built.edges

  second_part : IsPart b (1 + states a) None r
  second_part =
      part_last b r (1 + states a) None (map silent Ends ∷ [] ++ copied a 1 None)
      (length-append (map silent Ends ∷ []) (copied a 1 None) ∙ ap (λ n. 1 + n) (length-copied a 1 None)) built.edges

  start_moves : moves_of r 0 ≡ map silent Ends
  start_moves = ap (λ l. get_or l 0 []) built.edges

  enters : (q : ℕ) → Contains Ends q → Reach r q []
  enters q among =
      reach_silent r 0 q [] (subst (λ n. Reach r n []) built.start (reach_start r)) (subst (λ l. StepIn l None q) (sym start_moves) (silent_step Ends q among))

  -- what reaches a state of the union
  abbrev At : ℕ → List ℕ → Type 0
  At q w =
      ((q ≡ 0) × (w ≡ []))
      ⊎ (((p : ℕ) × (p < states a) × (1 + p ≡ q) × Reach a p w) ⊎ ((p : ℕ) × (p < states b) × (1 + states a + p ≡ q) × Reach b p w))

  from_start : (q : ℕ) (letter : Option ℕ) → HasStep r 0 letter q → (letter ≡ None) × At q []
  from_start q letter step =
      let only = silent_step_only Ends letter q (subst (λ l. StepIn l letter q) start_moves step) in (
        only.0,
        elim (Contains-cons_cases (1 + a.start) ((1 + states a + b.start) ∷ []) q only.1) [
          | inl first ↦ inr (inl (a.start, ok_a.starts, first, reach_start a))
          | inr later ↦ elim (Contains-cons_cases (1 + states a + b.start) [] q later) [
            | inl second ↦ inr (inr (b.start, ok_b.starts, second, reach_start b))
            | inr none ↦ absurd (Contains-nil q none)
          ]
        ],
      )

  kept : (p q : ℕ) (letter : Option ℕ) (w : List ℕ) → Reach r p w → At p w → HasStep r p letter q → At q (w ++ option_to_list letter)
  kept p q letter w reach at step = elim at [
    | inl start ↦
        let next = from_start q letter (subst (λ n. HasStep r n letter q) start.0 step) in
        subst (λ v. At q v) (sym (ap (λ v. v ++ option_to_list letter) start.1 ∙ ap option_to_list next.0)) next.1
    | inr copies ↦ elim copies [
      | inl first ↦ elim (part_cases a r 1 None ok_a first_part first.0 q letter first.1 (subst (λ n. HasStep r n letter q) (sym first.2) step)) [
        | inl own ↦ inr (inl (own.0, leads_to_state a ok_a first.0 own.0 letter own.2, own.1, reach_step a first.0 own.0 letter w first.3 own.2))
        | inr leaves ↦ let never = leaves.2 in cc
      ]
      | inr second ↦ elim (part_cases b r (1 + states a) None ok_b second_part second.0 q letter second.1 (subst (λ n. HasStep r n letter q) (sym second.2) step)) [
        | inl own ↦ inr (inr (own.0, leads_to_state b ok_b second.0 own.0 letter own.2, own.1, reach_step b second.0 own.0 letter w second.3 own.2))
        | inr leaves ↦ let never = leaves.2 in cc
      ]
    ]
  ]

  only : (q : ℕ) (w : List ℕ) → Reach r q w → At q w
  only = reach_each r At kept (inl (built.start, refl))

  pub union_states : states r ≡ 1 + states a + states b
  union_states = omega (arith, ap length built.finals, length-append (false ∷ [] ++ a.finals) b.finals, length-append (false ∷ []) a.finals)

  pub union_ok : IsAutomaton r
  union_ok = record {
    each =
        omega (
          arith,
          union_states,
          ap length built.edges,
          length-append (map silent Ends ∷ [] ++ copied a 1 None) (copied b (1 + states a) None),
          length-append (map silent Ends ∷ []) (copied a 1 None),
          length-copied a 1 None,
          length-copied b (1 + states a) None,
        );
    starts = omega (arith, union_states, built.start);
    moves =
        let Fits' : List Move → Type 0 = All (IsMove r.letters (states r)) in
        let entry : Fits' (map silent Ends) =
        silents_ok r.letters (states r) Ends
        (All-cons (λ t. t < states r) (1 + a.start) ((1 + states a + b.start) ∷ []) (omega (arith, union_states, ok_a.starts))
        (All-cons (λ t. t < states r) (1 + states a + b.start) [] (omega (arith, union_states, ok_b.starts)) (All-nil (λ t. t < states r)))) in
        let first : All Fits' (copied a 1 None) =
        subst (λ n. All (All (IsMove n (states r))) (copied a 1 None)) (sym built.letters)
        (copied_ok a 1 None (states r) ok_a (omega (arith, union_states)) (λ t never. cc)) in
        let second : All Fits' (copied b (1 + states a) None) =
        subst (λ n. All (All (IsMove n (states r))) (copied b (1 + states a) None)) (built.same_letters ∙ sym built.letters)
        (copied_ok b (1 + states a) None (states r) ok_b (omega (arith, union_states)) (λ t never. cc)) in
        subst (λ l. All Fits' l) (sym built.edges)
        (All-append Fits' (map silent Ends ∷ [] ++ copied a 1 None) (copied b (1 + states a) None)
        (All-append Fits' (map silent Ends ∷ []) (copied a 1 None) (All-cons Fits' (map silent Ends) [] entry (All-nil Fits')) first) second);
  }

  pub union_start : (w : List ℕ) → Reach r 0 w ↔ (w ≡ [])
  union_start w = (
    λ reach. elim (only 0 w reach) [
      | inl start ↦ start.1
      | inr copies ↦ elim copies [ inl first ↦ absurd (omega (arith, first.2)) | inr second ↦ absurd (omega (arith, second.2)) ]
    ],
    λ empty. subst (λ v. Reach r 0 v) (sym empty) (subst (λ n. Reach r n []) built.start (reach_start r)),
  )

  pub union_first : (q : ℕ) (w : List ℕ) → q < states a → Reach r (1 + q) w ↔ Reach a q w
  union_first q w below = (
    λ reach. elim (only (1 + q) w reach) [
      | inl start ↦ absurd (omega (arith, start.0))
      | inr copies ↦ elim copies [
        | inl first ↦ let same : first.0 ≡ q = omega (arith, first.2) in subst (λ n. Reach a n w) same first.3
        | inr second ↦ absurd (omega (arith, second.2))
      ]
    ],
    reach_renamed a r (λ n. 1 + n) (part_step a r 1 None ok_a first_part) [] (enters (1 + a.start) (0, omega arith, refl)) q w,
  )

  pub union_second : (q : ℕ) (w : List ℕ) → Reach r (1 + states a + q) w ↔ Reach b q w
  union_second q w = (
    λ reach. elim (only (1 + states a + q) w reach) [
      | inl start ↦ absurd (omega (arith, start.0))
      | inr copies ↦ elim copies [
        | inl first ↦ absurd (omega (arith, first.1, first.2))
        | inr second ↦ let same : second.0 ≡ q = omega (arith, second.2) in subst (λ n. Reach b n w) same second.3
      ]
    ],
    reach_renamed b r (λ n. 1 + states a + n) (part_step b r (1 + states a) None ok_b second_part) [] (enters (1 + states a + b.start) (1, omega arith, refl)) q w,
  )

  first_final : (q : ℕ) → q < states a → get_or r.finals (1 + q) false ≡ get_or a.finals q false
  first_final q below = ap (λ l. get_or l (1 + q) false) built.finals ∙ get_or_block (false ∷ []) a.finals b.finals 1 q false refl below

  second_final : (q : ℕ) → get_or r.finals (1 + states a + q) false ≡ get_or b.finals q false
  second_final q =
      ap (λ l. get_or l (1 + states a + q) false) built.finals
      ∙ get_or_last (false ∷ [] ++ a.finals) b.finals (1 + states a) q false (length-append (false ∷ []) a.finals)

  start_not_final : IsFinal r 0 → ⊥
  start_not_final final = let never = sym final ∙ ap (λ l. get_or l 0 false) built.finals in cc

  pub union_language : (w : List ℕ) → Accepts r w ↔ (Accepts a w ⊎ Accepts b w)
  union_language w = (
    λ (q, reach, final). elim (only q w reach) [
      | inl start ↦ absurd (start_not_final (subst (λ n. IsFinal r n) start.0 final))
      | inr copies ↦ elim copies [
        | inl first ↦ inl (first.0, first.3, sym (first_final first.0 first.1) ∙ ap (λ n. get_or r.finals n false) first.2 ∙ final)
        | inr second ↦ inr (second.0, second.3, sym (second_final second.0) ∙ ap (λ n. get_or r.finals n false) second.2 ∙ final)
      ]
    ],
    λ accepts. elim accepts [
      | inl first ↦
          let below = state_of_reach a ok_a first.0 w first.1 in
          (1 + first.0, (union_first first.0 w below).1 first.1, first_final first.0 below ∙ first.2)
      | inr second ↦ (1 + states a + second.0, (union_second second.0 w).1 second.1, second_final second.0 ∙ second.2)
    ],
  )
