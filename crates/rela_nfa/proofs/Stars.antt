-- What the repetition of an automaton reaches and accepts.
use Rattle.std.proofs.Common.{◌≡◌, ℕ, ◌+◌, ◌<◌, ◌⊎◌, ◌↔◌, true, false, List, [], ◌∷◌, ◌++◌, length, get_or, map, Option, None, Some, refl, sym, ap, ◌∙◌, subst, inl, inr, arith, append_assoc, length-append}
use Rattle.std.specs.List.{All, concat}
use Rattle.std.specs.Option.{option_to_list}
use Rattle.std.proofs.lemmas.List.{append-nil}
use Rattle.std.proofs.lemmas.List.Elements.{All-nil, All-cons, All-append, All-push, All-head, All-tail}
use Rattle.rela_nfa.specs.Automaton.{Automaton, Move, IsMove, IsAutomaton, moves_of, states}
use Rattle.rela_nfa.specs.Runs.{StepIn, HasStep, Reach, Accepts}
use Rattle.rela_nfa.specs.Construction.{silent, copied}
use Rattle.rela_nfa.specs.Languages.{Joins, Repeats}
use Rattle.rela_nfa.proofs.Moves.{silent_step, silent_step_only, Contains-cons_cases, Contains-nil}
use Rattle.rela_nfa.proofs.Parts.{IsPart, part_last, part_step, part_exit, part_cases, get_or_last, leads_to_state, state_of_reach, length-copied, copied_ok, silents_ok}
use Rattle.rela_nfa.proofs.Reaching.{reach_start, reach_step, reach_silent, reach_each, reach_renamed}

concat-push : (pieces : List (List ℕ)) (piece : List ℕ) → concat (pieces ++ piece ∷ []) ≡ concat pieces ++ piece
concat-push [] piece = append-nil piece
concat-push (first ∷ rest) piece = ap (λ l. first ++ l) (concat-push rest piece) ∙ sym (append_assoc first (concat rest) piece)

-- one word more
repeats_push : (P : List ℕ → Type 0) (front back : List ℕ) → Repeats P front → P back → Repeats P (front ++ back)
repeats_push P front back (pieces, each, joined) holds =
    (pieces ++ back ∷ [], All-push P pieces back each holds, concat-push pieces back ∙ ap (λ v. v ++ back) joined)

-- a start of its own, which is final, and the states of the automaton, whose final ones lead silently to its start
pub record IsStar (a r : Automaton) : Type 0 where
  pub letters : r.letters ≡ a.letters
  pub start : r.start ≡ 0
  pub edges : r.edges ≡ map silent ((1 + a.start) ∷ []) ∷ [] ++ copied a 1 (Some (1 + a.start))
  pub finals : r.finals ≡ true ∷ [] ++ a.finals

module _ (a r : Automaton) (ok_a : IsAutomaton a) (built : IsStar a r) where
  abbrev Entry : ℕ
  Entry = 1 + a.start

  part : IsPart a 1 (Some Entry) r
  part = part_last a r 1 (Some Entry) (map silent (Entry ∷ []) ∷ []) refl built.edges

  start_moves : moves_of r 0 ≡ map silent (Entry ∷ [])
  start_moves = ap (λ l. get_or l 0 []) built.edges

  at_start : Reach r 0 []
  at_start = subst (λ n. Reach r n []) built.start (reach_start r)

  at_entry : Reach r Entry []
  at_entry = reach_silent r 0 Entry [] at_start (subst (λ l. StepIn l None Entry) (sym start_moves) (silent_step (Entry ∷ []) Entry (0, omega arith, refl)))

  pub star_states : states r ≡ 1 + states a
  star_states = ap length built.finals ∙ length-append (true ∷ []) a.finals

  pub star_ok : IsAutomaton r
  star_ok = record {
    each =
        omega (arith, star_states, ap length built.edges, length-append (map silent (Entry ∷ []) ∷ []) (copied a 1 (Some Entry)), length-copied a 1 (Some Entry));
    starts = omega (arith, star_states, built.start);
    moves =
        let Fits' : List Move → Type 0 = All (IsMove r.letters (states r)) in
        let in_range : Entry < states r = omega (arith, star_states, ok_a.starts) in
        let entry : Fits' (map silent (Entry ∷ [])) =
        silents_ok r.letters (states r) (Entry ∷ []) (All-cons (λ t. t < states r) Entry [] in_range (All-nil (λ t. t < states r))) in
        let copies : All Fits' (copied a 1 (Some Entry)) =
        subst (λ n. All (All (IsMove n (states r))) (copied a 1 (Some Entry))) (sym built.letters)
        (copied_ok a 1 (Some Entry) (states r) ok_a (omega (arith, star_states)) (λ t is. let same : Entry ≡ t = cc in omega (arith, in_range))) in
        subst (λ l. All Fits' l) (sym built.edges)
        (All-append Fits' (map silent (Entry ∷ []) ∷ []) (copied a 1 (Some Entry)) (All-cons Fits' (map silent (Entry ∷ [])) [] entry (All-nil Fits')) copies);
  }

  -- what reaches a state
  abbrev At : ℕ → List ℕ → Type 0
  At q w = ((q ≡ 0) × (w ≡ [])) ⊎ ((p : ℕ) × (p < states a) × (1 + p ≡ q) × Joins (Repeats (Accepts a)) (Reach a p) w)

  enters : (w : List ℕ) → Repeats (Accepts a) w → At Entry w
  enters w repeats = inr (a.start, ok_a.starts, refl, (w, [], append-nil w, repeats, reach_start a))

  from_start : (q : ℕ) (letter : Option ℕ) → HasStep r 0 letter q → (letter ≡ None) × At q []
  from_start q letter step =
      let only = silent_step_only (Entry ∷ []) letter q (subst (λ l. StepIn l letter q) start_moves step) in (
        only.0,
        elim (Contains-cons_cases Entry [] q only.1) [
          | inl here ↦ subst (λ n. At n []) here (enters [] ([], All-nil (Accepts a), refl))
          | inr none ↦ absurd (Contains-nil q none)
        ],
      )

  kept : (p q : ℕ) (letter : Option ℕ) (w : List ℕ) → Reach r p w → At p w → HasStep r p letter q → At q (w ++ option_to_list letter)
  kept p q letter w reach at step = elim at [
    | inl start ↦
        let next = from_start q letter (subst (λ n. HasStep r n letter q) start.0 step) in
        subst (λ v. At q v) (sym (ap (λ v. v ++ option_to_list letter) start.1 ∙ ap option_to_list next.0)) next.1
    | inr copy ↦
        let split = copy.3 in
        elim (part_cases a r 1 (Some Entry) ok_a part copy.0 q letter copy.1 (subst (λ n. HasStep r n letter q) (sym copy.2) step)) [
          | inl own ↦
              inr (
                own.0,
                leads_to_state a ok_a copy.0 own.0 letter own.2,
                own.1,
                (
                  split.0,
                  split.1 ++ option_to_list letter,
                  sym (append_assoc split.0 split.1 (option_to_list letter)) ∙ ap (λ v. v ++ option_to_list letter) split.2,
                  split.3,
                  reach_step a copy.0 own.0 letter split.1 split.4 own.2,
                ),
              )
          | inr leaves ↦
              let same : Entry ≡ q = let exits = leaves.2 in cc in
              let repeats : Repeats (Accepts a) w =
              subst (Repeats (Accepts a)) split.2 (repeats_push (Accepts a) split.0 split.1 split.3 (copy.0, split.4, leaves.0)) in
              subst (λ n. At n (w ++ option_to_list letter)) same (subst (λ v. At Entry v) (sym (append-nil w) ∙ ap (λ o. w ++ option_to_list o) (sym leaves.1)) (enters w repeats))
        ]
  ]

  only : (q : ℕ) (w : List ℕ) → Reach r q w → At q w
  only = reach_each r At kept (inl (built.start, refl))

  along : (front : List ℕ) → Reach r Entry front → (q : ℕ) (w : List ℕ) → Reach a q w → Reach r (1 + q) (front ++ w)
  along = reach_renamed a r (λ n. 1 + n) (part_step a r 1 (Some Entry) ok_a part)

  -- a word of the automaton leads back to its start
  again : (front piece : List ℕ) → Reach r Entry front → Accepts a piece → Reach r Entry (front ++ piece)
  again front piece reach (q, reads, final) =
      reach_silent r (1 + q) Entry (front ++ piece) (along front reach q piece reads)
      (part_exit a r 1 (Some Entry) ok_a part q Entry (state_of_reach a ok_a q piece reads) final refl)

  repeated : (front : List ℕ) (pieces : List (List ℕ)) → Reach r Entry front → All (Accepts a) pieces → Reach r Entry (front ++ concat pieces)
  repeated front [] reach each = subst (λ v. Reach r Entry v) (sym (append-nil front)) reach
  repeated front (piece ∷ rest) reach each =
      subst (λ v. Reach r Entry v) (append_assoc front piece (concat rest))
      (repeated (front ++ piece) rest (again front piece reach (All-head (Accepts a) piece rest each)) (All-tail (Accepts a) piece rest each))

  pub star_start : (w : List ℕ) → Reach r 0 w ↔ (w ≡ [])
  star_start w = (λ reach. elim (only 0 w reach) [ inl start ↦ start.1 | inr copy ↦ absurd (omega (arith, copy.2)) ], λ empty. subst (λ v. Reach r 0 v) (sym empty) at_start)

  pub star_copies : (q : ℕ) (w : List ℕ) → Reach r (1 + q) w ↔ Joins (Repeats (Accepts a)) (Reach a q) w
  star_copies q w = (
    λ reach. elim (only (1 + q) w reach) [
      | inl start ↦ absurd (omega (arith, start.0))
      | inr copy ↦ let same : copy.0 ≡ q = omega (arith, copy.2) in subst (λ n. Joins (Repeats (Accepts a)) (Reach a n) w) same copy.3
    ],
    λ (front, back, joined, (pieces, each, repeats), reads).
        subst (λ v. Reach r (1 + q) v) joined (along front (subst (λ v. Reach r Entry v) repeats (repeated [] pieces at_entry each)) q back reads),
  )

  copy_final : (q : ℕ) → get_or r.finals (1 + q) false ≡ get_or a.finals q false
  copy_final q = ap (λ l. get_or l (1 + q) false) built.finals ∙ get_or_last (true ∷ []) a.finals 1 q false refl

  ends : (front piece : List ℕ) (rest : List (List ℕ)) → Reach r Entry front → Accepts a piece → All (Accepts a) rest → Accepts r ((front ++ piece) ++ concat rest)
  ends front piece [] reach (q, reads, final) each =
      (1 + q, subst (λ v. Reach r (1 + q) v) (sym (append-nil (front ++ piece))) (along front reach q piece reads), copy_final q ∙ final)
  ends front piece (next ∷ rest) reach accepts each =
      subst (λ v. Accepts r v) (append_assoc (front ++ piece) next (concat rest))
      (ends (front ++ piece) next rest (again front piece reach accepts) (All-head (Accepts a) next rest each) (All-tail (Accepts a) next rest each))

  accepts_all : (pieces : List (List ℕ)) → All (Accepts a) pieces → Accepts r (concat pieces)
  accepts_all [] each = (0, at_start, ap (λ l. get_or l 0 false) built.finals)
  accepts_all (piece ∷ rest) each = ends [] piece rest at_entry (All-head (Accepts a) piece rest each) (All-tail (Accepts a) piece rest each)

  pub star_language : (w : List ℕ) → Accepts r w ↔ Repeats (Accepts a) w
  star_language w = (
    λ (q, reach, final). elim (only q w reach) [
      | inl start ↦ ([], All-nil (Accepts a), sym start.1)
      | inr copy ↦
          let split = copy.3 in
          subst (Repeats (Accepts a)) split.2
          (repeats_push (Accepts a) split.0 split.1 split.3 (copy.0, split.4, sym (copy_final copy.0) ∙ ap (λ n. get_or r.finals n false) copy.2 ∙ final))
    ],
    λ (pieces, each, joined). subst (λ v. Accepts r v) joined (accepts_all pieces each),
  )
