-- What a transducer followed by another reaches and relates.
use Rattle.std.proofs.Common.{◌≡◌, ℕ, ◌+◌, ◌<◌, ◌⊎◌, ◌↔◌, Bool, false, List, [], ◌++◌, length, get_or, None, Some, refl, sym, ap, ◌∙◌, subst, inl, inr, arith, append_assoc, length-append, zero-add}
use Rattle.std.specs.List.{All}
use Rattle.std.specs.Prelude.{replicate}
use Rattle.std.proofs.lemmas.List.{append-nil, get_or_append_left, get_or-replicate, length-replicate}
use Rattle.std.proofs.lemmas.List.Elements.{All-append}
use Rattle.rela_trans.specs.Machine.{Machine, IsMachine, IsMove, IsFinal, machine_states}
use Rattle.rela_trans.specs.Runs.{HasStep, ReachR, Relates}
use Rattle.rela_trans.specs.Construction.{copied}
use Rattle.rela_trans.specs.Relations.{PairJoins}
use Rattle.rela_trans.specs.declared.moves.Move.{Move}
use Rattle.rela_trans.proofs.ListLaws.{get_or_last}
use Rattle.rela_trans.proofs.Parts.{IsPart, part_at, part_last, part_step, part_exit, part_cases, leads_to_state, state_of_reach, length-copied, copied_ok}
use Rattle.rela_trans.proofs.Reaching.{subst_pair, reach_start, reach_step, reach_silent, reach_each, reach_renamed}

-- the second pair goes on
pub joins_push : (R S T : List ℕ → List ℕ → Type 0) (u v input output : List ℕ) → ((x y : List ℕ) → S x y → T (x ++ input) (y ++ output)) → PairJoins R S u v
    → PairJoins R T (u ++ input) (v ++ output)
joins_push R S T u v input output on split = record {
  front_in = split.front_in;
  rest_in = split.rest_in ++ input;
  front_out = split.front_out;
  rest_out = split.rest_out ++ output;
  split_in = ap (λ w. w ++ input) split.split_in ∙ append_assoc split.front_in split.rest_in input;
  split_out = ap (λ w. w ++ output) split.split_out ∙ append_assoc split.front_out split.rest_out output;
  in_front = split.in_front;
  in_rest = on split.rest_in split.rest_out split.in_rest;
}

-- the second is another relation with the same pair
pub joins_weaker : (R S T : List ℕ → List ℕ → Type 0) (u v : List ℕ) → ((x y : List ℕ) → S x y → T x y) → PairJoins R S u v → PairJoins R T u v
joins_weaker R S T u v on split = record {
  front_in = split.front_in;
  rest_in = split.rest_in;
  front_out = split.front_out;
  rest_out = split.rest_out;
  split_in = split.split_in;
  split_out = split.split_out;
  in_front = split.in_front;
  in_rest = on split.rest_in split.rest_out split.in_rest;
}

-- nothing of the second yet
pub joins_start : (R S : List ℕ → List ℕ → Type 0) (u v : List ℕ) → R u v → S [] [] → PairJoins R S u v
joins_start R S u v first second = record {
  front_in = u;
  rest_in = [];
  front_out = v;
  rest_out = [];
  split_in = sym (append-nil u);
  split_out = sym (append-nil v);
  in_front = first;
  in_rest = second;
}

-- the states of the first, whose final ones lead silently to the start of the second, and then the states of the second
pub record IsConcat (a b r : Machine) : Type 0 where
  pub letters : r.letters ≡ a.letters
  pub same_letters : b.letters ≡ a.letters
  pub start : r.start ≡ a.start
  pub moves : r.moves ≡ copied a 0 (Some (machine_states a + b.start)) ++ copied b (machine_states a) None
  pub finals : r.finals ≡ replicate (machine_states a) false ++ b.finals

module _ (a b r : Machine) (ok_a : IsMachine a) (ok_b : IsMachine b) (built : IsConcat a b r) where
  abbrev Exit : ℕ
  Exit = machine_states a + b.start

  first_part : IsPart a 0 (Some Exit) r
  first_part = part_at a r 0 (Some Exit) [] (copied b (machine_states a) None) refl built.moves

  second_part : IsPart b (machine_states a) None r
  second_part = part_last b r (machine_states a) None (copied a 0 (Some Exit)) (length-copied a 0 (Some Exit)) built.moves

  pub concat_states : machine_states r ≡ machine_states a + machine_states b
  concat_states = omega (arith, ap length built.finals, length-append (replicate (machine_states a) false) b.finals, length-replicate (machine_states a) false)

  pub concat_ok : IsMachine r
  concat_ok = record {
    each =
        omega (
          arith,
          concat_states,
          ap length built.moves,
          length-append (copied a 0 (Some Exit)) (copied b (machine_states a) None),
          length-copied a 0 (Some Exit),
          length-copied b (machine_states a) None,
        );
    starts = omega (arith, concat_states, built.start, ok_a.starts);
    moves =
        let Fits' : List (Move (List Bool)) → Type 0 = All (IsMove r.letters (machine_states r)) in
        let first : All Fits' (copied a 0 (Some Exit)) =
        subst (λ n. All (All (IsMove n (machine_states r))) (copied a 0 (Some Exit))) (sym built.letters)
        (copied_ok a 0 (Some Exit) (machine_states r) ok_a (omega (arith, concat_states)) (λ t is. let same : Exit ≡ t = cc in omega (arith, concat_states, ok_b.starts))) in
        let second : All Fits' (copied b (machine_states a) None) =
        subst (λ n. All (All (IsMove n (machine_states r))) (copied b (machine_states a) None)) (built.same_letters ∙ sym built.letters)
        (copied_ok b (machine_states a) None (machine_states r) ok_b (omega (arith, concat_states)) (λ t never. cc)) in
        subst (λ l. All Fits' l) (sym built.moves) (All-append Fits' (copied a 0 (Some Exit)) (copied b (machine_states a) None) first second);
  }

  first_not_final : (q : ℕ) → q < machine_states a → IsFinal r q → ⊥
  first_not_final q below final =
      let in_front : q < length (replicate (machine_states a) false) = omega (arith, below, length-replicate (machine_states a) false) in
      let never =
      sym final ∙ ap (λ l. get_or l q false) built.finals ∙ get_or_append_left (replicate (machine_states a) false) b.finals false q in_front
      ∙ get_or-replicate (machine_states a) q false false below in
      cc

  second_final : (q : ℕ) → get_or r.finals (machine_states a + q) false ≡ get_or b.finals q false
  second_final q =
      ap (λ l. get_or l (machine_states a + q) false) built.finals
      ∙ get_or_last (replicate (machine_states a) false) b.finals (machine_states a) q false (length-replicate (machine_states a) false)

  module _ (read : ℕ → ℕ) where
    -- what reaches a state
    abbrev At : ℕ → List ℕ → List ℕ → Type 0
    At q u v =
        ((q < machine_states a) × ReachR read a q u v)
        ⊎ ((p : ℕ) × (p < machine_states b) × (machine_states a + p ≡ q) × PairJoins (Relates read a) (ReachR read b p) u v)

    kept : (p q : ℕ) (u v input output : List ℕ) → ReachR read r p u v → At p u v → HasStep read r p input output q → At q (u ++ input) (v ++ output)
    kept p q u v input output reach at step = elim at [
      | inl first ↦ elim (part_cases read a r 0 (Some Exit) ok_a first_part p q input output first.0 (subst (λ n. HasStep read r n input output q) (sym (zero-add p)) step)) [
        | inl own ↦
            let same : own.0 ≡ q = omega (arith, own.1) in
            inl (subst (λ n. (n < machine_states a) × ReachR read a n (u ++ input) (v ++ output)) same
            (leads_to_state read a ok_a p own.0 input output own.2, reach_step read a p own.0 u v input output first.1 own.2))
        | inr leaves ↦
            let same : Exit ≡ q = let exits = leaves.3 in cc in
            let related : Relates read a (u ++ input) (v ++ output) =
            subst_pair (Relates read a) (sym (ap (λ w. u ++ w) leaves.1 ∙ append-nil u)) (sym (ap (λ w. v ++ w) leaves.2 ∙ append-nil v)) (p, first.1, leaves.0) in
            inr (b.start, ok_b.starts, same, joins_start (Relates read a) (ReachR read b b.start) (u ++ input) (v ++ output) related (reach_start read b))
      ]
      | inr second ↦ elim (part_cases read b r (machine_states a) None ok_b second_part second.0 q input output second.1 (subst (λ n. HasStep read r n input output q) (sym second.2) step)) [
        | inl own ↦
            inr (
              own.0,
              leads_to_state read b ok_b second.0 own.0 input output own.2,
              own.1,
              joins_push (Relates read a) (ReachR read b second.0) (ReachR read b own.0) u v input output
                  (λ x y reads. reach_step read b second.0 own.0 x y input output reads own.2) second.3,
            )
        | inr leaves ↦ let never = leaves.3 in cc
      ]
    ]

    only : (q : ℕ) (u v : List ℕ) → ReachR read r q u v → At q u v
    only = reach_each read r At kept (inl (subst (λ n. (n < machine_states a) × ReachR read a n [] []) (sym built.start) (ok_a.starts, reach_start read a)))

    in_first : (q : ℕ) (u v : List ℕ) → ReachR read a q u v → ReachR read r q u v
    in_first =
        reach_renamed read a r (λ n. n)
        (λ p q input output step.
        subst (λ n. HasStep read r n input output q) (zero-add p)
        (subst (λ n. HasStep read r (0 + p) input output n) (zero-add q) (part_step read a r 0 (Some Exit) ok_a first_part p q input output step)))
        [] [] (subst (λ n. ReachR read r n [] []) built.start (reach_start read r))

    in_second : (q : ℕ) (u v : List ℕ) → PairJoins (Relates read a) (ReachR read b q) u v → ReachR read r (machine_states a + q) u v
    in_second q u v split =
        let x = split.front_in in
        let y = split.front_out in
        let p = split.in_front.0 in
        let reach = split.in_front.1 in
        let exit : HasStep read r p [] [] Exit =
        subst (λ n. HasStep read r n [] [] Exit) (zero-add p)
        (part_exit read a r 0 (Some Exit) ok_a first_part p Exit (state_of_reach read a ok_a p x y reach) split.in_front.2 refl) in
        subst_pair (ReachR read r (machine_states a + q)) (sym split.split_in) (sym split.split_out)
        (reach_renamed read b r (λ n. machine_states a + n) (part_step read b r (machine_states a) None ok_b second_part) x y
        (reach_silent read r p Exit x y (in_first p x y reach) exit) q split.rest_in split.rest_out split.in_rest)

    pub concat_first : (q : ℕ) (u v : List ℕ) → q < machine_states a → ReachR read r q u v ↔ ReachR read a q u v
    concat_first q u v below = (λ reach. elim (only q u v reach) [ inl first ↦ first.1 | inr second ↦ absurd (omega (arith, second.2)) ], in_first q u v)

    pub concat_second : (q : ℕ) (u v : List ℕ) → ReachR read r (machine_states a + q) u v ↔ PairJoins (Relates read a) (ReachR read b q) u v
    concat_second q u v = (
      λ reach. elim (only (machine_states a + q) u v reach) [
        | inl first ↦ absurd (omega (arith, first.0))
        | inr second ↦ let same : second.0 ≡ q = omega (arith, second.2) in subst (λ n. PairJoins (Relates read a) (ReachR read b n) u v) same second.3
      ],
      in_second q u v,
    )

    ends_second : (q p : ℕ) (x y : List ℕ) → machine_states a + p ≡ q → IsFinal r q → ReachR read b p x y → Relates read b x y
    ends_second q p x y same final reach = (p, reach, sym (second_final p) ∙ ap (λ n. get_or r.finals n false) same ∙ final)

    pub concat_relation : (u v : List ℕ) → Relates read r u v ↔ PairJoins (Relates read a) (Relates read b) u v
    concat_relation u v = (
      λ (q, reach, final). elim (only q u v reach) [
        | inl first ↦ absurd (first_not_final q first.0 final)
        | inr second ↦
            joins_weaker (Relates read a) (ReachR read b second.0) (Relates read b) u v (λ x y reads. ends_second q second.0 x y second.2 final reads) second.3
      ],
      λ split.
          let q = split.in_rest.0 in
          let reads : PairJoins (Relates read a) (ReachR read b q) u v = record {
            front_in = split.front_in;
            rest_in = split.rest_in;
            front_out = split.front_out;
            rest_out = split.rest_out;
            split_in = split.split_in;
            split_out = split.split_out;
            in_front = split.in_front;
            in_rest = split.in_rest.1;
          } in
          (machine_states a + q, in_second q u v reads, second_final q ∙ split.in_rest.2),
    )
