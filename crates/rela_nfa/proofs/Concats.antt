-- What an automaton followed by another reaches and accepts.
use Rattle.std.proofs.Common.{◌≡◌, ℕ, ◌+◌, ◌<◌, ◌⊎◌, ◌↔◌, false, List, [], ◌++◌, length, get_or, Option, None, Some, refl, sym, ap, ◌∙◌, subst, inl, inr, arith, append_assoc, length-append, zero-add}
use Rattle.std.specs.List.{All}
use Rattle.std.specs.Option.{option_to_list}
use Rattle.std.specs.Prelude.{replicate}
use Rattle.std.proofs.lemmas.List.{get_or_append_left, get_or-replicate, length-replicate}
use Rattle.std.proofs.lemmas.List.Elements.{All-append}
use Rattle.rela_nfa.specs.Automaton.{Automaton, Move, IsMove, IsAutomaton, IsFinal, states}
use Rattle.rela_nfa.specs.Runs.{HasStep, Reach, Accepts}
use Rattle.rela_nfa.specs.Construction.{copied}
use Rattle.rela_nfa.specs.Languages.{Joins}
use Rattle.rela_nfa.proofs.Parts.{IsPart, part_at, part_last, part_step, part_exit, part_cases, get_or_last, leads_to_state, state_of_reach, length-copied, copied_ok}
use Rattle.rela_nfa.proofs.Reaching.{reach_start, reach_step, reach_silent, reach_each, reach_renamed}

-- the states of the first, whose final ones lead silently to the start of the second, and then the states of the second
pub record IsConcat (a b r : Automaton) : Type 0 where
  pub letters : r.letters ≡ a.letters
  pub same_letters : b.letters ≡ a.letters
  pub start : r.start ≡ a.start
  pub edges : r.edges ≡ copied a 0 (Some (states a + b.start)) ++ copied b (states a) None
  pub finals : r.finals ≡ replicate (states a) false ++ b.finals

module _ (a b r : Automaton) (ok_a : IsAutomaton a) (ok_b : IsAutomaton b) (built : IsConcat a b r) where
  abbrev Exit : ℕ
  Exit = states a + b.start

  first_part : IsPart a 0 (Some Exit) r
  first_part = part_at a r 0 (Some Exit) [] (copied b (states a) None) refl built.edges

  second_part : IsPart b (states a) None r
  second_part = part_last b r (states a) None (copied a 0 (Some Exit)) (length-copied a 0 (Some Exit)) built.edges

  pub concat_states : states r ≡ states a + states b
  concat_states = omega (arith, ap length built.finals, length-append (replicate (states a) false) b.finals, length-replicate (states a) false)

  pub concat_ok : IsAutomaton r
  concat_ok = record {
    each =
        omega (
          arith,
          concat_states,
          ap length built.edges,
          length-append (copied a 0 (Some Exit)) (copied b (states a) None),
          length-copied a 0 (Some Exit),
          length-copied b (states a) None,
        );
    starts = omega (arith, concat_states, built.start, ok_a.starts);
    moves =
        let Fits' : List Move → Type 0 = All (IsMove r.letters (states r)) in
        let first : All Fits' (copied a 0 (Some Exit)) =
        subst (λ n. All (All (IsMove n (states r))) (copied a 0 (Some Exit))) (sym built.letters)
        (copied_ok a 0 (Some Exit) (states r) ok_a (omega (arith, concat_states)) (λ t is. let same : Exit ≡ t = cc in omega (arith, concat_states, ok_b.starts))) in
        let second : All Fits' (copied b (states a) None) =
        subst (λ n. All (All (IsMove n (states r))) (copied b (states a) None)) (built.same_letters ∙ sym built.letters)
        (copied_ok b (states a) None (states r) ok_b (omega (arith, concat_states)) (λ t never. cc)) in
        subst (λ l. All Fits' l) (sym built.edges) (All-append Fits' (copied a 0 (Some Exit)) (copied b (states a) None) first second);
  }

  -- what reaches a state
  abbrev At : ℕ → List ℕ → Type 0
  At q w = ((q < states a) × Reach a q w) ⊎ ((p : ℕ) × (p < states b) × (states a + p ≡ q) × Joins (Accepts a) (Reach b p) w)

  kept : (p q : ℕ) (letter : Option ℕ) (w : List ℕ) → Reach r p w → At p w → HasStep r p letter q → At q (w ++ option_to_list letter)
  kept p q letter w reach at step = elim at [
    | inl first ↦ elim (part_cases a r 0 (Some Exit) ok_a first_part p q letter first.0 (subst (λ n. HasStep r n letter q) (sym (zero-add p)) step)) [
      | inl own ↦
          let same : own.0 ≡ q = omega (arith, own.1) in
          inl (subst (λ n. (n < states a) × Reach a n (w ++ option_to_list letter)) same
          (leads_to_state a ok_a p own.0 letter own.2, reach_step a p own.0 letter w first.1 own.2))
      | inr leaves ↦
          let same : Exit ≡ q = let exits = leaves.2 in cc in
          inr (b.start, ok_b.starts, same, (w, [], ap (λ o. w ++ option_to_list o) (sym leaves.1), (p, first.1, leaves.0), reach_start b))
    ]
    | inr second ↦ elim (part_cases b r (states a) None ok_b second_part second.0 q letter second.1 (subst (λ n. HasStep r n letter q) (sym second.2) step)) [
      | inl own ↦
          let split = second.3 in
          inr (
            own.0,
            leads_to_state b ok_b second.0 own.0 letter own.2,
            own.1,
            (
              split.0,
              split.1 ++ option_to_list letter,
              sym (append_assoc split.0 split.1 (option_to_list letter)) ∙ ap (λ v. v ++ option_to_list letter) split.2,
              split.3,
              reach_step b second.0 own.0 letter split.1 split.4 own.2,
            ),
          )
      | inr leaves ↦ let never = leaves.2 in cc
    ]
  ]

  only : (q : ℕ) (w : List ℕ) → Reach r q w → At q w
  only = reach_each r At kept (inl (subst (λ n. (n < states a) × Reach a n []) (sym built.start) (ok_a.starts, reach_start a)))

  in_first : (q : ℕ) (w : List ℕ) → Reach a q w → Reach r q w
  in_first =
      reach_renamed a r (λ n. n)
      (λ p q letter step.
      subst (λ n. HasStep r n letter q) (zero-add p) (subst (λ n. HasStep r (0 + p) letter n) (zero-add q) (part_step a r 0 (Some Exit) ok_a first_part p q letter step)))
      [] (subst (λ n. Reach r n []) built.start (reach_start r))

  in_second : (q : ℕ) (w : List ℕ) → Joins (Accepts a) (Reach b q) w → Reach r (states a + q) w
  in_second q w (front, back, joined, (p, reach, final), after) =
      let exit : HasStep r p None Exit =
      subst (λ n. HasStep r n None Exit) (zero-add p) (part_exit a r 0 (Some Exit) ok_a first_part p Exit (state_of_reach a ok_a p front reach) final refl) in
      subst (λ v. Reach r (states a + q) v) joined
      (reach_renamed b r (λ n. states a + n) (part_step b r (states a) None ok_b second_part) front (reach_silent r p Exit front (in_first p front reach) exit) q back after)

  pub concat_first : (q : ℕ) (w : List ℕ) → q < states a → Reach r q w ↔ Reach a q w
  concat_first q w below = (λ reach. elim (only q w reach) [ inl first ↦ first.1 | inr second ↦ absurd (omega (arith, second.2)) ], in_first q w)

  pub concat_second : (q : ℕ) (w : List ℕ) → Reach r (states a + q) w ↔ Joins (Accepts a) (Reach b q) w
  concat_second q w = (
    λ reach. elim (only (states a + q) w reach) [
      | inl first ↦ absurd (omega (arith, first.0))
      | inr second ↦ let same : second.0 ≡ q = omega (arith, second.2) in subst (λ n. Joins (Accepts a) (Reach b n) w) same second.3
    ],
    in_second q w,
  )

  first_not_final : (q : ℕ) → q < states a → IsFinal r q → ⊥
  first_not_final q below final =
      let in_front : q < length (replicate (states a) false) = omega (arith, below, length-replicate (states a) false) in
      let never = sym final ∙ ap (λ l. get_or l q false) built.finals ∙ get_or_append_left (replicate (states a) false) b.finals false q in_front ∙ get_or-replicate (states a) q false false below in
      cc

  second_final : (q : ℕ) → get_or r.finals (states a + q) false ≡ get_or b.finals q false
  second_final q = ap (λ l. get_or l (states a + q) false) built.finals ∙ get_or_last (replicate (states a) false) b.finals (states a) q false (length-replicate (states a) false)

  pub concat_language : (w : List ℕ) → Accepts r w ↔ Joins (Accepts a) (Accepts b) w
  concat_language w = (
    λ (q, reach, final). elim (only q w reach) [
      | inl first ↦ absurd (first_not_final q first.0 final)
      | inr second ↦
          let split = second.3 in
          (split.0, split.1, split.2, split.3, (second.0, split.4, sym (second_final second.0) ∙ ap (λ n. get_or r.finals n false) second.2 ∙ final))
    ],
    λ (front, back, joined, first, (q, reach, final)). (states a + q, in_second q w (front, back, joined, first, reach), second_final q ∙ final),
  )
