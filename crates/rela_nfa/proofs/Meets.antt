-- What two automata reach and accept together.
use Rattle.std.proofs.Common.{◌≡◌, ℕ, suc, ◌<◌, ◌↔◌, false, List, [], ◌∷◌, ◌++◌, length, get_or, map, Option, Some, refl, sym, ap, ◌∙◌, subst, inl, inr, arith}
use Rattle.std.specs.List.{All, Contains, slice_get}
use Rattle.std.specs.Option.{option_to_list}
use Rattle.std.proofs.lemmas.Bool.{cases_lt, and_parts, and_from}
use Rattle.std.proofs.lemmas.List.{get_or-map, get_or_default, length-map}
use Rattle.std.proofs.lemmas.List.Elements.{Contains-get_or}
use Rattle.std.proofs.lemmas.List.FromFn.{get_or-map-range_with_len, length-map-range_with_len}
use Rattle.std.proofs.lemmas.Option.{slice_get_within, slice_get-get_or, get_or_from_slice_get, same_Some}
use Rattle.rela_pairs.specs.Exploration.{Exploration, NumbersNext}
use Rattle.rela_pairs.specs.Finding.{AreNumbers}
use Rattle.rela_pairs.specs.Reachable.{Leads, Reachable, AreDistinct, MoreThan}
use Rattle.rela_pairs.specs.declared.pair.Pair.{Pair}
use Rattle.rela_nfa.specs.Automaton.{Automaton, Move, IsAutomaton, IsMove, moves_of, states}
use Rattle.rela_nfa.specs.Meeting.{ReachBoth, AreReachedTogether, IsMeet, IsProduct, JointMove, pair_of, joint_moves, next_pairs, numbered, final_both, product_moves_at}
use Rattle.rela_nfa.specs.Reading.{takes}
use Rattle.rela_nfa.specs.Runs.{StepIn, HasStep, Reach, Accepts}
use Rattle.rela_nfa.proofs.Moves.{Contains-nil, Contains-cons_cases, Contains-map, Contains-map_back}
use Rattle.rela_nfa.proofs.Joint.{JointStep, step_edge, edge_step, joint_in, joint_some, joint_sized, joint_out, both_start, both_step, both_each}
use Rattle.rela_nfa.proofs.Parts.{state_of_reach}
use Rattle.rela_nfa.proofs.Reaching.{reach_start, reach_step, reach_each}

-- ---- pairs that are reachable, and pairs that a word leads to

leads_push : (next : Pair → List Pair) (s x y : Pair) (path : List Pair) → Leads next s path x → Contains (next x) y → Leads next s (path ++ y ∷ []) y
leads_push next s x y [] here among = (subst (λ z. Contains (next z) y) (sym here) among, refl)
leads_push next s x y (z ∷ rest) leads among = (leads.0, leads_push next z x y rest leads.1 among)

module _ (a b : Automaton) where
  start_pair : Pair
  start_pair = pair_of a.start b.start

  follow_path : (path : List Pair) (s x : Pair) → AreReachedTogether a b s → Leads (next_pairs a b) s path x → AreReachedTogether a b x
  follow_path [] s x together here = subst (AreReachedTogether a b) here together
  follow_path (y ∷ rest) s x together leads =
      let found = Contains-map_back (λ (j : JointMove). j.to) (joint_moves a b s) y leads.0 in
      let step = joint_some a b s found.0 found.2 in
      follow_path rest y x (subst (AreReachedTogether a b) found.1 (together.0 ++ option_to_list step.0, both_step a b s found.0.to step.0 together.0 together.1 step.1)) leads.1

  pub together_from_reachable : (x : Pair) → Reachable (next_pairs a b) (pair_of a.start b.start) x → AreReachedTogether a b x
  together_from_reachable x (path, leads) = follow_path path (pair_of a.start b.start) x ([], both_start a b) leads

  step_next : (x y : Pair) (letter : Option ℕ) → JointStep a b x letter y → Contains (next_pairs a b x) y
  step_next x y letter step =
      let found = joint_out a b x letter y step in
      subst (λ z. Contains (next_pairs a b x) z) found.2 (Contains-map (λ (j : JointMove). j.to) (joint_moves a b x) found.0 found.1)

  pub reachable_from_together : (x : Pair) → AreReachedTogether a b x → Reachable (next_pairs a b) (pair_of a.start b.start) x
  reachable_from_together x (word, reach) =
      both_each a b (λ y w. Reachable (next_pairs a b) (pair_of a.start b.start) y) ([], refl)
      (λ y z letter w (path, leads) step. (path ++ z ∷ [], leads_push (next_pairs a b) (pair_of a.start b.start) y z path leads (step_next y z letter step))) x word reach

  -- so there are as many of the one as of the other
  pub more_together : (limit : ℕ) → MoreThan limit (Reachable (next_pairs a b) (pair_of a.start b.start)) → MoreThan limit (AreReachedTogether a b)
  more_together limit more = record { some = more.some; distinct = more.distinct; each = λ k d below. together_from_reachable (get_or more.some k d) (more.each k d below); count = more.count }

  pub more_reachable : (limit : ℕ) → MoreThan limit (AreReachedTogether a b) → MoreThan limit (Reachable (next_pairs a b) (pair_of a.start b.start))
  more_reachable limit more = record { some = more.some; distinct = more.distinct; each = λ k d below. reachable_from_together (get_or more.some k d) (more.each k d below); count = more.count }

-- ---- edges with the numbers of their ends

numbered_back : (pairs : List Pair) (moves : List JointMove) (targets : List ℕ) → AreNumbers pairs (map (λ j. j.to) moves) targets → (m : Move) → Contains (numbered moves targets) m
    → (j : JointMove) × Contains moves j × (m.label ≡ j.label) × (slice_get pairs m.to ≡ Some j.to)
numbered_back pairs [] targets are m among = absurd (Contains-nil m among)
numbered_back pairs (j ∷ moves) [] are m among = absurd (Contains-nil m among)
numbered_back pairs (j ∷ moves) (t ∷ targets) are m among = elim (Contains-cons_cases (record { label = j.label; to = t }) (numbered moves targets) m among) [
  | inl same ↦
      let at : slice_get pairs t ≡ Some j.to = cc in
      (j, (0, omega arith, refl), ap (λ (n : Move). n.label) (sym same), ap (λ (n : Move). slice_get pairs n.to) (sym same) ∙ at)
  | inr later ↦
      let rest : AreNumbers pairs (map (λ i. i.to) moves) targets = cc in
      let found = numbered_back pairs moves targets rest m later in
      (found.0, (suc found.1.0, omega (arith, found.1.1), found.1.2), found.2, found.3)
]

numbered_each : (pairs : List Pair) (moves : List JointMove) (targets : List ℕ) → AreNumbers pairs (map (λ j. j.to) moves) targets → (j : JointMove) → Contains moves j
    → (t : ℕ) × Contains (numbered moves targets) (record { label = j.label; to = t }) × (slice_get pairs t ≡ Some j.to)
numbered_each pairs [] targets are j among = absurd (Contains-nil j among)
numbered_each pairs (i ∷ moves) [] are j among = cc
numbered_each pairs (i ∷ moves) (t ∷ targets) are j among = elim (Contains-cons_cases i moves j among) [
  | inl same ↦
      let at : slice_get pairs t ≡ Some i.to = cc in
      (t, (0, omega arith, ap (λ (h : JointMove). record { label = h.label; to = t }) same), at ∙ ap (λ (h : JointMove). Some h.to) same)
  | inr later ↦
      let rest : AreNumbers pairs (map (λ h. h.to) moves) targets = cc in
      let found = numbered_each pairs moves targets rest j later in
      (found.0, (suc found.1.0, omega (arith, found.1.1), found.1.2), found.2)
]

All-from_contains : {X : Type 0} (P : X → Type 0) (xs : List X) → ((x : X) → Contains xs x → P x) → All P xs
All-from_contains P xs each k d below = each (get_or xs k d) (Contains-get_or xs k d below)

-- ---- the product

module _ (a b r : Automaton) (explored : Exploration) (built : IsProduct a b explored r) (distinct : AreDistinct explored.pairs)
    (first : slice_get explored.pairs 0 ≡ Some (pair_of a.start b.start))
    (each : (x : Pair) → Contains explored.pairs x ↔ Reachable (next_pairs a b) (pair_of a.start b.start) x)
    (targets : NumbersNext (next_pairs a b) explored) where
  pub product_states : states r ≡ length explored.pairs
  product_states = ap length built.finals ∙ length-map explored.pairs (final_both a b)

  abbrev edges_at : ℕ → List Move
  edges_at k = product_moves_at a b explored k

  product_moves : (k : ℕ) (x : Pair) → slice_get explored.pairs k ≡ Some x → moves_of r k ≡ numbered (joint_moves a b x) (get_or explored.targets k [])
  product_moves k x at =
      let below = slice_get_within explored.pairs k x at in
      ap (λ l. get_or l k []) built.edges ∙ get_or-map-range_with_len edges_at 0 (length explored.pairs) k k [] below (omega arith)
      ∙ ap (λ l. numbered l (get_or explored.targets k [])) (get_or-map (joint_moves a b) explored.pairs k x [] below ∙ ap (joint_moves a b) (get_or_from_slice_get explored.pairs k x x at))

  pub product_ok : IsAutomaton a → IsAutomaton r
  product_ok ok = record {
    each = ap length built.edges ∙ length-map-range_with_len edges_at 0 (length explored.pairs) ∙ sym product_states;
    starts = omega (arith, product_states, built.start, slice_get_within explored.pairs 0 (pair_of a.start b.start) first);
    moves = λ k d below.
        let within : k < length explored.pairs =
        omega (arith, below, ap length built.edges, length-map-range_with_len edges_at 0 (length explored.pairs)) in
        let none : Pair = pair_of 0 0 in
        let at = slice_get-get_or explored.pairs k none within in
        let x : Pair = get_or explored.pairs k none in
        subst (λ l. All (IsMove r.letters (states r)) l) (sym (product_moves k x at) ∙ get_or_default r.edges k [] d below)
        (All-from_contains (IsMove r.letters (states r)) (numbered (joint_moves a b x) (get_or explored.targets k [])) (λ m among.
        let found = numbered_back explored.pairs (joint_moves a b x) (get_or explored.targets k []) (targets k x at) m among in
        record {
          sized = λ set is. joint_sized a b x ok found.0 found.1 set (sym found.2 ∙ is) ∙ sym built.letters;
          leads = omega (arith, product_states, slice_get_within explored.pairs m.to found.0.to found.3);
        }));
  }

  step_back : (k t : ℕ) (x : Pair) (letter : Option ℕ) → slice_get explored.pairs k ≡ Some x → HasStep r k letter t
      → (y : Pair) × (slice_get explored.pairs t ≡ Some y) × JointStep a b x letter y
  step_back k t x letter at step =
      let edge = step_edge (moves_of r k) letter t step in
      let found = numbered_back explored.pairs (joint_moves a b x) (get_or explored.targets k []) (targets k x at) edge.0 (subst (λ l. Contains l edge.0) (product_moves k x at) edge.1) in
      (found.0.to, ap (λ n. slice_get explored.pairs n) (sym edge.2) ∙ found.3, joint_in a b x found.0 letter found.1 (sym (ap (λ l. takes l letter) found.2) ∙ edge.3))

  step_on : (k : ℕ) (x y : Pair) (letter : Option ℕ) → slice_get explored.pairs k ≡ Some x → JointStep a b x letter y → (t : ℕ) × (slice_get explored.pairs t ≡ Some y) × HasStep r k letter t
  step_on k x y letter at step =
      let found = joint_out a b x letter y step in
      let edge = numbered_each explored.pairs (joint_moves a b x) (get_or explored.targets k []) (targets k x at) found.0 found.1 in (
        edge.0,
        edge.2 ∙ ap Some found.2,
        subst (λ l. StepIn l letter edge.0) (sym (product_moves k x at))
            (edge_step (numbered (joint_moves a b x) (get_or explored.targets k [])) letter (record { label = found.0.label; to = edge.0 }) edge.1 found.3),
      )

  abbrev Stands : ℕ → List ℕ → Type 0
  Stands k w = (x : Pair) × (slice_get explored.pairs k ≡ Some x) × ReachBoth a b x w

  stands : (k : ℕ) (w : List ℕ) → Reach r k w → Stands k w
  stands =
      reach_each r Stands
      (λ p q letter w reach here step.
      let next = step_back p q here.0 letter here.1 step in
      (next.0, next.1, both_step a b here.0 next.0 letter w here.2 next.2))
      (subst (λ n. Stands n []) (sym built.start) (pair_of a.start b.start, first, both_start a b))

  abbrev Numbered : Pair → List ℕ → Type 0
  Numbered x w = (k : ℕ) × (slice_get explored.pairs k ≡ Some x) × Reach r k w

  numbers : (x : Pair) (w : List ℕ) → ReachBoth a b x w → Numbered x w
  numbers =
      both_each a b Numbered (0, first, subst (λ n. Reach r n []) built.start (reach_start r))
      (λ x y letter w here step.
      let next = step_on here.0 x y letter here.1 step in
      (next.0, next.1, reach_step r here.0 next.0 letter w here.2 next.2))

  one_place : (i j : ℕ) (x : Pair) → slice_get explored.pairs i ≡ Some x → slice_get explored.pairs j ≡ Some x → i ≡ j
  one_place i j x at_i at_j = elim (cases_lt i j) [
    | inl less ↦ absurd (distinct i j x less (slice_get_within explored.pairs j x at_j) (get_or_from_slice_get explored.pairs i x x at_i ∙ sym (get_or_from_slice_get explored.pairs j x x at_j)))
    | inr more ↦ elim (cases_lt j i) [
      | inl less ↦ absurd (distinct j i x less (slice_get_within explored.pairs i x at_i) (get_or_from_slice_get explored.pairs j x x at_j ∙ sym (get_or_from_slice_get explored.pairs i x x at_i)))
      | inr same ↦ omega arith
    ]
  ]

  pub product_meet : IsMeet a b explored.pairs r
  product_meet = record {
    count = sym product_states;
    distinct = distinct;
    together = λ x among. together_from_reachable a b x ((each x).0 among);
    all = λ x together. (each x).1 (reachable_from_together a b x together);
    reached = λ k x at w. (
      λ reach. let here = stands k w reach in subst (λ y. ReachBoth a b y w) (same_Some here.0 x (sym here.1 ∙ at)) here.2,
      λ both. let there = numbers x w both in subst (λ n. Reach r n w) (one_place there.0 k x there.1 at) there.2,
    );
  }

  final_at : (k : ℕ) (x : Pair) → slice_get explored.pairs k ≡ Some x → get_or r.finals k false ≡ final_both a b x
  final_at k x at =
      let below = slice_get_within explored.pairs k x at in
      ap (λ l. get_or l k false) built.finals ∙ get_or-map (final_both a b) explored.pairs k x false below ∙ ap (final_both a b) (get_or_from_slice_get explored.pairs k x x at)

  pub product_language : (w : List ℕ) → Accepts r w ↔ (Accepts a w × Accepts b w)
  product_language w = (accepted, λ both. accepts both.0 both.1)
    where
      accepted : Accepts r w → Accepts a w × Accepts b w
      accepted (k, reach, final) =
          let here = stands k w reach in
          let parts = and_parts (get_or a.finals here.0.left false) (get_or b.finals here.0.right false) (sym (final_at k here.0 here.1) ∙ final) in
          ((here.0.left, here.2.0, parts.0), (here.0.right, here.2.1, parts.1))

      accepts : Accepts a w → Accepts b w → Accepts r w
      accepts (p, first_reach, first_final) (q, second_reach, second_final) =
          let there = numbers (pair_of p q) w (first_reach, second_reach) in
          (there.0, there.2, final_at there.0 (pair_of p q) there.1 ∙ and_from (get_or a.finals p false) (get_or b.finals q false) first_final second_final)

-- what was explored are pairs of states
pub explored_states : (a b : Automaton) → IsAutomaton a → IsAutomaton b → (pairs : List Pair)
    → ((x : Pair) → Contains pairs x ↔ Reachable (next_pairs a b) (pair_of a.start b.start) x) → All (λ x. (x.left < states a) × (x.right < states b)) pairs
explored_states a b ok_a ok_b pairs each k d below =
    let x : Pair = get_or pairs k d in
    let together = together_from_reachable a b x ((each x).0 (Contains-get_or pairs k d below)) in
    (state_of_reach a ok_a x.left together.0 together.1.0, state_of_reach b ok_b x.right together.0 together.1.1)
