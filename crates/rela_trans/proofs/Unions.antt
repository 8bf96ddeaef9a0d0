-- What the union of two transducers reaches and relates.
use Rattle.std.proofs.Common.{◌≡◌, ℕ, ◌+◌, ◌<◌, ◌⊎◌, ◌↔◌, Bool, false, List, [], ◌∷◌, ◌++◌, length, get_or, map, None, refl, sym, ap, ◌∙◌, subst, inl, inr, arith, length-append}
use Rattle.std.specs.List.{All, Contains}
use Rattle.std.proofs.lemmas.List.Elements.{All-nil, All-cons, All-append}
use Rattle.rela_trans.specs.Machine.{Machine, IsMachine, IsMove, IsFinal, moves_of, machine_states}
use Rattle.rela_trans.specs.Runs.{StepIn, HasStep, ReachR, Relates}
use Rattle.rela_trans.specs.Construction.{silent, copied}
use Rattle.rela_trans.specs.declared.moves.Move.{Move}
use Rattle.rela_trans.proofs.ListLaws.{Contains-cons_cases, Contains-nil, get_or_block, get_or_last}
use Rattle.rela_trans.proofs.Steps.{silent_step, silent_step_only}
use Rattle.rela_trans.proofs.Parts.{IsPart, part_at, part_last, part_step, part_cases, leads_to_state, state_of_reach, length-copied, copied_ok, silents_ok}
use Rattle.rela_trans.proofs.Reaching.{subst_pair, reach_start, reach_step, reach_silent, reach_each, reach_renamed}

-- a start of its own, from which the starts of both are entered, and then the states of both
pub record IsUnion (a b r : Machine) : Type 0 where
  pub letters : r.letters ≡ a.letters
  pub same_letters : b.letters ≡ a.letters
  pub start : r.start ≡ 0
  pub moves : r.moves ≡ map silent ((1 + a.start) ∷ (1 + machine_states a + b.start) ∷ []) ∷ [] ++ copied a 1 None ++ copied b (1 + machine_states a) None
  pub finals : r.finals ≡ false ∷ [] ++ a.finals ++ b.finals

module _ (a b r : Machine) (ok_a : IsMachine a) (ok_b : IsMachine b) (built : IsUnion a b r) where
  abbrev Ends : List ℕ
  Ends = (1 + a.start) ∷ (1 + machine_states a + b.start) ∷ []

  first_part : IsPart a 1 None r
  first_part = part_at a r 1 None (map silent Ends ∷ []) (copied b (1 + machine_states a) None) refl built.moves

  second_part : IsPart b (1 + machine_states a) None r
  second_part =
      part_last b r (1 + machine_states a) None (map silent Ends ∷ [] ++ copied a 1 None)
      (length-append (map silent Ends ∷ []) (copied a 1 None) ∙ ap (λ n. 1 + n) (length-copied a 1 None)) built.moves

  start_moves : moves_of r 0 ≡ map silent Ends
  start_moves = ap (λ l. get_or l 0 []) built.moves

  pub union_states : machine_states r ≡ 1 + machine_states a + machine_states b
  union_states = omega (arith, ap length built.finals, length-append (false ∷ [] ++ a.finals) b.finals, length-append (false ∷ []) a.finals)

  pub union_ok : IsMachine r
  union_ok = record {
    each =
        omega (
          arith,
          union_states,
          ap length built.moves,
          length-append (map silent Ends ∷ [] ++ copied a 1 None) (copied b (1 + machine_states a) None),
          length-append (map silent Ends ∷ []) (copied a 1 None),
          length-copied a 1 None,
          length-copied b (1 + machine_states a) None,
        );
    starts = omega (arith, union_states, built.start);
    moves =
        let Fits' : List (Move (List Bool)) → Type 0 = All (IsMove r.letters (machine_states r)) in
        let entry : Fits' (map silent Ends) =
        silents_ok r.letters (machine_states r) Ends
        (All-cons (λ t. t < machine_states r) (1 + a.start) ((1 + machine_states a + b.start) ∷ []) (omega (arith, union_states, ok_a.starts))
        (All-cons (λ t. t < machine_states r) (1 + machine_states a + b.start) [] (omega (arith, union_states, ok_b.starts)) (All-nil (λ t. t < machine_states r)))) in
        let first : All Fits' (copied a 1 None) =
        subst (λ n. All (All (IsMove n (machine_states r))) (copied a 1 None)) (sym built.letters)
        (copied_ok a 1 None (machine_states r) ok_a (omega (arith, union_states)) (λ t never. cc)) in
        let second : All Fits' (copied b (1 + machine_states a) None) =
        subst (λ n. All (All (IsMove n (machine_states r))) (copied b (1 + machine_states a) None)) (built.same_letters ∙ sym built.letters)
        (copied_ok b (1 + machine_states a) None (machine_states r) ok_b (omega (arith, union_states)) (λ t never. cc)) in
        subst (λ l. All Fits' l) (sym built.moves)
        (All-append Fits' (map silent Ends ∷ [] ++ copied a 1 None) (copied b (1 + machine_states a) None)
        (All-append Fits' (map silent Ends ∷ []) (copied a 1 None) (All-cons Fits' (map silent Ends) [] entry (All-nil Fits')) first) second);
  }

  first_final : (q : ℕ) → q < machine_states a → get_or r.finals (1 + q) false ≡ get_or a.finals q false
  first_final q below = ap (λ l. get_or l (1 + q) false) built.finals ∙ get_or_block (false ∷ []) a.finals b.finals 1 q false refl below

  second_final : (q : ℕ) → get_or r.finals (1 + machine_states a + q) false ≡ get_or b.finals q false
  second_final q =
      ap (λ l. get_or l (1 + machine_states a + q) false) built.finals
      ∙ get_or_last (false ∷ [] ++ a.finals) b.finals (1 + machine_states a) q false (length-append (false ∷ []) a.finals)

  start_not_final : IsFinal r 0 → ⊥
  start_not_final final = let never = sym final ∙ ap (λ l. get_or l 0 false) built.finals in cc

  module _ (read : ℕ → ℕ) where
    enters : (q : ℕ) → Contains Ends q → ReachR read r q [] []
    enters q among =
        reach_silent read r 0 q [] [] (subst (λ n. ReachR read r n [] []) built.start (reach_start read r))
        (subst (λ l. StepIn read l [] [] q) (sym start_moves) (silent_step read Ends q among))

    -- what reaches a state of the union
    abbrev At : ℕ → List ℕ → List ℕ → Type 0
    At q u v =
        ((q ≡ 0) × (u ≡ []) × (v ≡ []))
        ⊎ (((p : ℕ) × (p < machine_states a) × (1 + p ≡ q) × ReachR read a p u v) ⊎ ((p : ℕ) × (p < machine_states b) × (1 + machine_states a + p ≡ q) × ReachR read b p u v))

    from_start : (q : ℕ) (input output : List ℕ) → HasStep read r 0 input output q → (input ≡ []) × (output ≡ []) × At q [] []
    from_start q input output step =
        let only = silent_step_only read input output q Ends (subst (λ l. StepIn read l input output q) start_moves step) in (
          only.0,
          only.1,
          elim (Contains-cons_cases (1 + a.start) ((1 + machine_states a + b.start) ∷ []) q only.2) [
            | inl first ↦ inr (inl (a.start, ok_a.starts, first, reach_start read a))
            | inr later ↦ elim (Contains-cons_cases (1 + machine_states a + b.start) [] q later) [
              | inl second ↦ inr (inr (b.start, ok_b.starts, second, reach_start read b))
              | inr none ↦ absurd (Contains-nil q none)
            ]
          ],
        )

    kept : (p q : ℕ) (u v input output : List ℕ) → ReachR read r p u v → At p u v → HasStep read r p input output q → At q (u ++ input) (v ++ output)
    kept p q u v input output reach at step = elim at [
      | inl start ↦
          let next = from_start q input output (subst (λ n. HasStep read r n input output q) start.0 step) in
          subst_pair (At q) (sym (ap (λ w. w ++ input) start.1 ∙ next.0)) (sym (ap (λ w. w ++ output) start.2 ∙ next.1)) next.2
      | inr copies ↦ elim copies [
        | inl first ↦ elim (part_cases read a r 1 None ok_a first_part first.0 q input output first.1 (subst (λ n. HasStep read r n input output q) (sym first.2) step)) [
          | inl own ↦
              inr (inl (own.0, leads_to_state read a ok_a first.0 own.0 input output own.2, own.1, reach_step read a first.0 own.0 u v input output first.3 own.2))
          | inr leaves ↦ let never = leaves.3 in cc
        ]
        | inr second ↦ elim (part_cases read b r (1 + machine_states a) None ok_b second_part second.0 q input output second.1 (subst (λ n. HasStep read r n input output q) (sym second.2) step)) [
          | inl own ↦
              inr (inr (own.0, leads_to_state read b ok_b second.0 own.0 input output own.2, own.1, reach_step read b second.0 own.0 u v input output second.3 own.2))
          | inr leaves ↦ let never = leaves.3 in cc
        ]
      ]
    ]

    only : (q : ℕ) (u v : List ℕ) → ReachR read r q u v → At q u v
    only = reach_each read r At kept (inl (built.start, refl, refl))

    pub union_start : (u v : List ℕ) → ReachR read r 0 u v ↔ ((u ≡ []) × (v ≡ []))
    union_start u v = (
      λ reach. elim (only 0 u v reach) [
        | inl start ↦ (start.1, start.2)
        | inr copies ↦ elim copies [ inl first ↦ absurd (omega (arith, first.2)) | inr second ↦ absurd (omega (arith, second.2)) ]
      ],
      λ empty. subst_pair (ReachR read r 0) (sym empty.0) (sym empty.1) (subst (λ n. ReachR read r n [] []) built.start (reach_start read r)),
    )

    pub union_first : (q : ℕ) (u v : List ℕ) → q < machine_states a → ReachR read r (1 + q) u v ↔ ReachR read a q u v
    union_first q u v below = (
      λ reach. elim (only (1 + q) u v reach) [
        | inl start ↦ absurd (omega (arith, start.0))
        | inr copies ↦ elim copies [
          | inl first ↦ let same : first.0 ≡ q = omega (arith, first.2) in subst (λ n. ReachR read a n u v) same first.3
          | inr second ↦ absurd (omega (arith, second.2))
        ]
      ],
      reach_renamed read a r (λ n. 1 + n) (part_step read a r 1 None ok_a first_part) [] [] (enters (1 + a.start) (0, omega arith, refl)) q u v,
    )

    pub union_second : (q : ℕ) (u v : List ℕ) → ReachR read r (1 + machine_states a + q) u v ↔ ReachR read b q u v
    union_second q u v = (
      λ reach. elim (only (1 + machine_states a + q) u v reach) [
        | inl start ↦ absurd (omega (arith, start.0))
        | inr copies ↦ elim copies [
          | inl first ↦ absurd (omega (arith, first.1, first.2))
          | inr second ↦ let same : second.0 ≡ q = omega (arith, second.2) in subst (λ n. ReachR read b n u v) same second.3
        ]
      ],
      reach_renamed read b r (λ n. 1 + machine_states a + n) (part_step read b r (1 + machine_states a) None ok_b second_part) [] []
          (enters (1 + machine_states a + b.start) (1, omega arith, refl)) q u v,
    )

    pub union_relation : (u v : List ℕ) → Relates read r u v ↔ (Relates read a u v ⊎ Relates read b u v)
    union_relation u v = (
      λ (q, reach, final). elim (only q u v reach) [
        | inl start ↦ absurd (start_not_final (subst (λ n. IsFinal r n) start.0 final))
        | inr copies ↦ elim copies [
          | inl first ↦ inl (first.0, first.3, sym (first_final first.0 first.1) ∙ ap (λ n. get_or r.finals n false) first.2 ∙ final)
          | inr second ↦ inr (second.0, second.3, sym (second_final second.0) ∙ ap (λ n. get_or r.finals n false) second.2 ∙ final)
        ]
      ],
      λ either. elim either [
        | inl first ↦
            let below = state_of_reach read a ok_a first.0 u v first.1 in
            (1 + first.0, (union_first first.0 u v below).1 first.1, first_final first.0 below ∙ first.2)
        | inr second ↦ (1 + machine_states a + second.0, (union_second second.0 u v).1 second.1, second_final second.0 ∙ second.2)
      ],
    )
