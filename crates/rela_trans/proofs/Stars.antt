-- What the repetition of a transducer reaches and relates.
use Rattle.std.proofs.Common.{◌≡◌, ℕ, ◌+◌, ◌<◌, ◌⊎◌, ◌↔◌, Bool, true, false, List, [], ◌∷◌, ◌++◌, length, get_or, map, Some, refl, sym, ap, ◌∙◌, subst, inl, inr, arith, append_assoc, length-append}
use Rattle.std.specs.List.{All, AllZip, concat}
use Rattle.std.proofs.lemmas.List.{append-nil}
use Rattle.std.proofs.lemmas.List.Elements.{All-nil, All-cons, All-append}
use Rattle.rela_trans.specs.Machine.{Machine, IsMachine, IsMove, IsFinal, moves_of, machine_states}
use Rattle.rela_trans.specs.Runs.{StepIn, HasStep, ReachR, Relates}
use Rattle.rela_trans.specs.Construction.{silent, copied}
use Rattle.rela_trans.specs.Relations.{PairJoins, PairRepeats}
use Rattle.rela_trans.specs.declared.moves.Move.{Move}
use Rattle.rela_trans.proofs.Concats.{joins_push, joins_start}
use Rattle.rela_trans.proofs.ListLaws.{Contains-cons_cases, Contains-nil, get_or_last}
use Rattle.rela_trans.proofs.Steps.{silent_step, silent_step_only}
use Rattle.rela_trans.proofs.Parts.{IsPart, part_last, part_step, part_exit, part_cases, leads_to_state, state_of_reach, length-copied, copied_ok, silents_ok}
use Rattle.rela_trans.proofs.Reaching.{subst_pair, reach_start, reach_step, reach_silent, reach_each, reach_renamed}

concat-push : (pieces : List (List ℕ)) (piece : List ℕ) → concat (pieces ++ piece ∷ []) ≡ concat pieces ++ piece
concat-push [] piece = append-nil piece
concat-push (first ∷ rest) piece = ap (λ l. first ++ l) (concat-push rest piece) ∙ sym (append_assoc first (concat rest) piece)

zip_push : (R : List ℕ → List ℕ → Type 0) (xs ys : List (List ℕ)) (x y : List ℕ) → AllZip R xs ys → R x y → AllZip R (xs ++ x ∷ []) (ys ++ y ∷ [])
zip_push R [] [] x y each here = (here, tt)
zip_push R [] (b ∷ ys) x y each here = absurd each
zip_push R (a ∷ xs) [] x y each here = absurd each
zip_push R (a ∷ xs) (b ∷ ys) x y each here = (each.0, zip_push R xs ys x y each.1 here)

-- no pair at all
repeats_none : (R : List ℕ → List ℕ → Type 0) → PairRepeats R [] []
repeats_none R = record { pieces_in = []; pieces_out = []; joined_in = refl; joined_out = refl; each = tt }

-- one pair more
repeats_push : (R : List ℕ → List ℕ → Type 0) (u v x y : List ℕ) → PairRepeats R u v → R x y → PairRepeats R (u ++ x) (v ++ y)
repeats_push R u v x y repeats holds = record {
  pieces_in = repeats.pieces_in ++ x ∷ [];
  pieces_out = repeats.pieces_out ++ y ∷ [];
  joined_in = ap (λ w. w ++ x) repeats.joined_in ∙ sym (concat-push repeats.pieces_in x);
  joined_out = ap (λ w. w ++ y) repeats.joined_out ∙ sym (concat-push repeats.pieces_out y);
  each = zip_push R repeats.pieces_in repeats.pieces_out x y repeats.each holds;
}

-- a start of its own, which is final, and the states of the transducer, whose final ones lead silently to its start
pub record IsStar (a r : Machine) : Type 0 where
  pub letters : r.letters ≡ a.letters
  pub start : r.start ≡ 0
  pub moves : r.moves ≡ map silent ((1 + a.start) ∷ []) ∷ [] ++ copied a 1 (Some (1 + a.start))
  pub finals : r.finals ≡ true ∷ [] ++ a.finals

module _ (a r : Machine) (ok_a : IsMachine a) (built : IsStar a r) where
  abbrev Entry : ℕ
  Entry = 1 + a.start

  part : IsPart a 1 (Some Entry) r
  part = part_last a r 1 (Some Entry) (map silent (Entry ∷ []) ∷ []) refl built.moves

  start_moves : moves_of r 0 ≡ map silent (Entry ∷ [])
  start_moves = ap (λ l. get_or l 0 []) built.moves

  pub star_states : machine_states r ≡ 1 + machine_states a
  star_states = ap length built.finals ∙ length-append (true ∷ []) a.finals

  pub star_ok : IsMachine r
  star_ok = record {
    each =
        omega (arith, star_states, ap length built.moves, length-append (map silent (Entry ∷ []) ∷ []) (copied a 1 (Some Entry)), length-copied a 1 (Some Entry));
    starts = omega (arith, star_states, built.start);
    moves =
        let Fits' : List (Move (List Bool)) → Type 0 = All (IsMove r.letters (machine_states r)) in
        let in_range : Entry < machine_states r = omega (arith, star_states, ok_a.starts) in
        let entry : Fits' (map silent (Entry ∷ [])) =
        silents_ok r.letters (machine_states r) (Entry ∷ []) (All-cons (λ t. t < machine_states r) Entry [] in_range (All-nil (λ t. t < machine_states r))) in
        let copies : All Fits' (copied a 1 (Some Entry)) =
        subst (λ n. All (All (IsMove n (machine_states r))) (copied a 1 (Some Entry))) (sym built.letters)
        (copied_ok a 1 (Some Entry) (machine_states r) ok_a (omega (arith, star_states)) (λ t is. let same : Entry ≡ t = cc in omega (arith, in_range))) in
        subst (λ l. All Fits' l) (sym built.moves)
        (All-append Fits' (map silent (Entry ∷ []) ∷ []) (copied a 1 (Some Entry)) (All-cons Fits' (map silent (Entry ∷ [])) [] entry (All-nil Fits')) copies);
  }

  copy_final : (q : ℕ) → get_or r.finals (1 + q) false ≡ get_or a.finals q false
  copy_final q = ap (λ l. get_or l (1 + q) false) built.finals ∙ get_or_last (true ∷ []) a.finals 1 q false refl

  start_final : IsFinal r 0
  start_final = ap (λ l. get_or l 0 false) built.finals

  module _ (read : ℕ → ℕ) where
    at_start : ReachR read r 0 [] []
    at_start = subst (λ n. ReachR read r n [] []) built.start (reach_start read r)

    at_entry : ReachR read r Entry [] []
    at_entry = reach_silent read r 0 Entry [] [] at_start (subst (λ l. StepIn read l [] [] Entry) (sym start_moves) (silent_step read (Entry ∷ []) Entry (0, omega arith, refl)))

    -- what reaches a state
    abbrev At : ℕ → List ℕ → List ℕ → Type 0
    At q u v =
        ((q ≡ 0) × (u ≡ []) × (v ≡ []))
        ⊎ ((p : ℕ) × (p < machine_states a) × (1 + p ≡ q) × PairJoins (PairRepeats (Relates read a)) (ReachR read a p) u v)

    enters : (u v : List ℕ) → PairRepeats (Relates read a) u v → At Entry u v
    enters u v repeats =
        inr (a.start, ok_a.starts, refl, joins_start (PairRepeats (Relates read a)) (ReachR read a a.start) u v repeats (reach_start read a))

    from_start : (q : ℕ) (input output : List ℕ) → HasStep read r 0 input output q → (input ≡ []) × (output ≡ []) × At q [] []
    from_start q input output step =
        let only = silent_step_only read input output q (Entry ∷ []) (subst (λ l. StepIn read l input output q) start_moves step) in (
          only.0,
          only.1,
          elim (Contains-cons_cases Entry [] q only.2) [
            | inl here ↦ subst (λ n. At n [] []) here (enters [] [] (repeats_none (Relates read a)))
            | inr none ↦ absurd (Contains-nil q none)
          ],
        )

    -- a pair of pieces, and one more that ends
    one_more : (p : ℕ) (u v : List ℕ) → PairJoins (PairRepeats (Relates read a)) (ReachR read a p) u v → IsFinal a p → PairRepeats (Relates read a) u v
    one_more p u v split final =
        subst_pair (PairRepeats (Relates read a)) (sym split.split_in) (sym split.split_out)
        (repeats_push (Relates read a) split.front_in split.front_out split.rest_in split.rest_out split.in_front (p, split.in_rest, final))

    kept : (p q : ℕ) (u v input output : List ℕ) → ReachR read r p u v → At p u v → HasStep read r p input output q → At q (u ++ input) (v ++ output)
    kept p q u v input output reach at step = elim at [
      | inl start ↦
          let next = from_start q input output (subst (λ n. HasStep read r n input output q) start.0 step) in
          subst_pair (At q) (sym (ap (λ w. w ++ input) start.1 ∙ next.0)) (sym (ap (λ w. w ++ output) start.2 ∙ next.1)) next.2
      | inr copy ↦ elim (part_cases read a r 1 (Some Entry) ok_a part copy.0 q input output copy.1 (subst (λ n. HasStep read r n input output q) (sym copy.2) step)) [
        | inl own ↦
            inr (
              own.0,
              leads_to_state read a ok_a copy.0 own.0 input output own.2,
              own.1,
              joins_push (PairRepeats (Relates read a)) (ReachR read a copy.0) (ReachR read a own.0) u v input output
                  (λ x y reads. reach_step read a copy.0 own.0 x y input output reads own.2) copy.3,
            )
        | inr leaves ↦
            let same : Entry ≡ q = let exits = leaves.3 in cc in
            subst (λ n. At n (u ++ input) (v ++ output)) same
            (subst_pair (At Entry) (sym (ap (λ w. u ++ w) leaves.1 ∙ append-nil u)) (sym (ap (λ w. v ++ w) leaves.2 ∙ append-nil v))
            (enters u v (one_more copy.0 u v copy.3 leaves.0)))
      ]
    ]

    only : (q : ℕ) (u v : List ℕ) → ReachR read r q u v → At q u v
    only = reach_each read r At kept (inl (built.start, refl, refl))

    along : (x y : List ℕ) → ReachR read r Entry x y → (q : ℕ) (u v : List ℕ) → ReachR read a q u v → ReachR read r (1 + q) (x ++ u) (y ++ v)
    along = reach_renamed read a r (λ n. 1 + n) (part_step read a r 1 (Some Entry) ok_a part)

    -- a pair of the transducer leads back to its start
    again : (x y u v : List ℕ) → ReachR read r Entry x y → Relates read a u v → ReachR read r Entry (x ++ u) (y ++ v)
    again x y u v reach (q, reads, final) =
        reach_silent read r (1 + q) Entry (x ++ u) (y ++ v) (along x y reach q u v reads)
        (part_exit read a r 1 (Some Entry) ok_a part q Entry (state_of_reach read a ok_a q u v reads) final refl)

    repeated : (x y : List ℕ) (us vs : List (List ℕ)) → ReachR read r Entry x y → AllZip (Relates read a) us vs → ReachR read r Entry (x ++ concat us) (y ++ concat vs)
    repeated x y [] [] reach each = subst_pair (ReachR read r Entry) (sym (append-nil x)) (sym (append-nil y)) reach
    repeated x y [] (v ∷ vs) reach each = absurd each
    repeated x y (u ∷ us) [] reach each = absurd each
    repeated x y (u ∷ us) (v ∷ vs) reach each =
        subst_pair (ReachR read r Entry) (append_assoc x u (concat us)) (append_assoc y v (concat vs))
        (repeated (x ++ u) (y ++ v) us vs (again x y u v reach each.0) each.1)

    pub star_start : (u v : List ℕ) → ReachR read r 0 u v ↔ ((u ≡ []) × (v ≡ []))
    star_start u v = (
      λ reach. elim (only 0 u v reach) [ inl start ↦ (start.1, start.2) | inr copy ↦ absurd (omega (arith, copy.2)) ],
      λ empty. subst_pair (ReachR read r 0) (sym empty.0) (sym empty.1) at_start,
    )

    -- after pieces of the transducer its start is entered again
    back_at_entry : (u v : List ℕ) → PairRepeats (Relates read a) u v → ReachR read r Entry u v
    back_at_entry u v repeats =
        subst_pair (ReachR read r Entry) (sym repeats.joined_in) (sym repeats.joined_out) (repeated [] [] repeats.pieces_in repeats.pieces_out at_entry repeats.each)

    pub star_copies : (q : ℕ) (u v : List ℕ) → ReachR read r (1 + q) u v ↔ PairJoins (PairRepeats (Relates read a)) (ReachR read a q) u v
    star_copies q u v = (
      λ reach. elim (only (1 + q) u v reach) [
        | inl start ↦ absurd (omega (arith, start.0))
        | inr copy ↦ let same : copy.0 ≡ q = omega (arith, copy.2) in subst (λ n. PairJoins (PairRepeats (Relates read a)) (ReachR read a n) u v) same copy.3
      ],
      λ split. subst_pair (ReachR read r (1 + q)) (sym split.split_in) (sym split.split_out)
          (along split.front_in split.front_out (back_at_entry split.front_in split.front_out split.in_front) q split.rest_in split.rest_out split.in_rest),
    )

    ends : (x y u v : List ℕ) (us vs : List (List ℕ)) → ReachR read r Entry x y → Relates read a u v → AllZip (Relates read a) us vs
        → Relates read r ((x ++ u) ++ concat us) ((y ++ v) ++ concat vs)
    ends x y u v [] [] reach (q, reads, final) each = (
      1 + q,
      subst_pair (ReachR read r (1 + q)) (sym (append-nil (x ++ u))) (sym (append-nil (y ++ v))) (along x y reach q u v reads),
      copy_final q ∙ final,
    )
    ends x y u v [] (second ∷ vs) reach related each = absurd each
    ends x y u v (first ∷ us) [] reach related each = absurd each
    ends x y u v (first ∷ us) (second ∷ vs) reach related each =
        subst_pair (Relates read r) (append_assoc (x ++ u) first (concat us)) (append_assoc (y ++ v) second (concat vs))
        (ends (x ++ u) (y ++ v) first second us vs (again x y u v reach related) each.0 each.1)

    relates_all : (us vs : List (List ℕ)) → AllZip (Relates read a) us vs → Relates read r (concat us) (concat vs)
    relates_all [] [] each = (0, at_start, start_final)
    relates_all [] (v ∷ vs) each = absurd each
    relates_all (u ∷ us) [] each = absurd each
    relates_all (u ∷ us) (v ∷ vs) each = ends [] [] u v us vs at_entry each.0 each.1

    pub star_relation : (u v : List ℕ) → Relates read r u v ↔ PairRepeats (Relates read a) u v
    star_relation u v = (
      λ (q, reach, final). elim (only q u v reach) [
        | inl start ↦ subst_pair (PairRepeats (Relates read a)) (sym start.1) (sym start.2) (repeats_none (Relates read a))
        | inr copy ↦ one_more copy.0 u v copy.3 (sym (copy_final copy.0) ∙ ap (λ n. get_or r.finals n false) copy.2 ∙ final)
      ],
      λ repeats. subst_pair (Relates read r) (sym repeats.joined_in) (sym repeats.joined_out) (relates_all repeats.pieces_in repeats.pieces_out repeats.each),
    )
