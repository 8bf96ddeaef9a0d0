-- What two transducers reach and relate one after the other.
use Rattle.std.proofs.Common.{◌≡◌, ℕ, suc, ◌<◌, ◌↔◌, Bool, false, List, [], ◌∷◌, ◌++◌, length, get_or, map, Some, refl, sym, ap, ◌∙◌, subst, inl, inr, arith}
use Rattle.std.specs.List.{All, Contains, slice_get}
use Rattle.std.proofs.lemmas.Bool.{cases_lt, and_parts, and_from}
use Rattle.std.proofs.lemmas.List.{get_or-map, get_or_default, length-map}
use Rattle.std.proofs.lemmas.List.Elements.{Contains-get_or}
use Rattle.std.proofs.lemmas.List.FromFn.{get_or-map-range_with_len, length-map-range_with_len}
use Rattle.std.proofs.lemmas.Option.{slice_get_within, slice_get-get_or, get_or_from_slice_get, same_Some}
use Rattle.rela_pairs.specs.Exploration.{Exploration, NumbersNext}
use Rattle.rela_pairs.specs.Finding.{AreNumbers}
use Rattle.rela_pairs.specs.Reachable.{Leads, Reachable, AreDistinct, MoreThan}
use Rattle.rela_pairs.specs.declared.pair.Pair.{Pair}
use Rattle.rela_nfa.specs.Meeting.{pair_of}
use Rattle.rela_trans.specs.Composition.{Covers, ReachThrough, AreReachedThrough, IsComposition, IsProduct, joint_moves, next_pairs, numbered, final_both, product_moves_at}
use Rattle.rela_trans.specs.Machine.{Machine, Kind, IsMachine, IsMove, IsSized, moves_of, machine_states}
use Rattle.rela_trans.specs.Runs.{Does, StepIn, HasStep, ReachR, Relates}
use Rattle.rela_trans.specs.declared.joint.JointMove.{JointMove}
use Rattle.rela_trans.specs.declared.moves.Move.{Move}
use Rattle.rela_trans.proofs.JointSteps.{JointStep, joint_in, joint_some, joint_sized, joint_out, through_start, through_step, through_each}
use Rattle.rela_trans.proofs.ListLaws.{Contains-nil, Contains-cons_cases, Contains-map, Contains-map_back}
use Rattle.rela_trans.proofs.Parts.{state_of_reach}
use Rattle.rela_trans.proofs.Paths.{reachable_start, reachable_next}
use Rattle.rela_trans.proofs.Reaching.{reach_start, reach_step, reach_each}

-- ---- pairs that are reachable, and pairs that a word in the middle leads to

module _ (a b : Machine) (ok : IsMachine a) where
  follow_path : (path : List Pair) (s x : Pair) → AreReachedThrough a b s → Leads (next_pairs a b) s path x → AreReachedThrough a b x
  follow_path [] s x through here = subst (AreReachedThrough a b) here through
  follow_path (y ∷ rest) s x through leads =
      let found = Contains-map_back (λ (j : JointMove (List Bool)). j.to) (joint_moves a b s) y leads.0 in
      let step = joint_some a b s ok found.0 found.2 in
      follow_path rest y x
      (subst (AreReachedThrough a b) found.1
      (through.0 ++ step.0, through.1 ++ step.1, through_step (λ k. k) a b s found.0.to through.0 through.1 step.0 step.1 through.2 step.2))
      leads.1

  pub through_from_reachable : (x : Pair) → Reachable (next_pairs a b) (pair_of a.start b.start) x → AreReachedThrough a b x
  through_from_reachable x (path, leads) = follow_path path (pair_of a.start b.start) x ([], [], through_start (λ k. k) a b) leads

  step_next : (x y : Pair) (input output : List ℕ) → JointStep (λ k. k) a b x input output y → Contains (next_pairs a b x) y
  step_next x y input output step =
      let found = joint_out a b x (λ k. k) input output y step in
      subst (λ z. Contains (next_pairs a b x) z) found.2 (Contains-map (λ (j : JointMove (List Bool)). j.to) (joint_moves a b x) found.0 found.1)

  pub reachable_from_through : (x : Pair) → AreReachedThrough a b x → Reachable (next_pairs a b) (pair_of a.start b.start) x
  reachable_from_through x (u, w, through) =
      through_each (λ k. k) a b (λ y v z. Reachable (next_pairs a b) (pair_of a.start b.start) y) (reachable_start (next_pairs a b) (pair_of a.start b.start))
      (λ y z v t input output here step. reachable_next (next_pairs a b) (pair_of a.start b.start) y z here (step_next y z input output step)) x u w through

  -- so there are as many of the one as of the other
  pub more_through : (limit : ℕ) → MoreThan limit (Reachable (next_pairs a b) (pair_of a.start b.start)) → MoreThan limit (AreReachedThrough a b)
  more_through limit more = record { some = more.some; distinct = more.distinct; each = λ k d below. through_from_reachable (get_or more.some k d) (more.each k d below); count = more.count }

  pub more_reachable : (limit : ℕ) → MoreThan limit (AreReachedThrough a b) → MoreThan limit (Reachable (next_pairs a b) (pair_of a.start b.start))
  more_reachable limit more = record { some = more.some; distinct = more.distinct; each = λ k d below. reachable_from_through (get_or more.some k d) (more.each k d below); count = more.count }

-- ---- moves with the numbers of their ends

numbered_back : (pairs : List Pair) (moves : List (JointMove (List Bool))) (targets : List ℕ) → AreNumbers pairs (map (λ j. j.to) moves) targets
    → (m : Move (List Bool)) → Contains (numbered moves targets) m
    → (j : JointMove (List Bool)) × Contains moves j × (m.kind ≡ j.kind) × (slice_get pairs m.to ≡ Some j.to)
numbered_back pairs [] targets are m among = absurd (Contains-nil m among)
numbered_back pairs (j ∷ moves) [] are m among = absurd (Contains-nil m among)
numbered_back pairs (j ∷ moves) (t ∷ targets) are m among = elim (Contains-cons_cases (record { kind = j.kind; to = t }) (numbered moves targets) m among) [
  | inl same ↦
      let at : slice_get pairs t ≡ Some j.to = cc in
      (j, (0, omega arith, refl), ap (λ (n : Move (List Bool)). n.kind) (sym same), ap (λ (n : Move (List Bool)). slice_get pairs n.to) (sym same) ∙ at)
  | inr later ↦
      let rest : AreNumbers pairs (map (λ i. i.to) moves) targets = cc in
      let found = numbered_back pairs moves targets rest m later in
      (found.0, (suc found.1.0, omega (arith, found.1.1), found.1.2), found.2, found.3)
]

numbered_each : (pairs : List Pair) (moves : List (JointMove (List Bool))) (targets : List ℕ) → AreNumbers pairs (map (λ j. j.to) moves) targets
    → (j : JointMove (List Bool)) → Contains moves j
    → (t : ℕ) × Contains (numbered moves targets) (record { kind = j.kind; to = t }) × (slice_get pairs t ≡ Some j.to)
numbered_each pairs [] targets are j among = absurd (Contains-nil j among)
numbered_each pairs (i ∷ moves) [] are j among = cc
numbered_each pairs (i ∷ moves) (t ∷ targets) are j among = elim (Contains-cons_cases i moves j among) [
  | inl same ↦
      let at : slice_get pairs t ≡ Some i.to = cc in
      (t, (0, omega arith, ap (λ (h : JointMove (List Bool)). record { kind = h.kind; to = t }) same), at ∙ ap (λ (h : JointMove (List Bool)). Some h.to) same)
  | inr later ↦
      let rest : AreNumbers pairs (map (λ h. h.to) moves) targets = cc in
      let found = numbered_each pairs moves targets rest j later in
      (found.0, (suc found.1.0, omega (arith, found.1.1), found.1.2), found.2)
]

All-from_contains : {X : Type 0} (P : X → Type 0) (xs : List X) → ((x : X) → Contains xs x → P x) → All P xs
All-from_contains P xs each k d below = each (get_or xs k d) (Contains-get_or xs k d below)

-- ---- the product

module _ (a b r : Machine) (explored : Exploration) (built : IsProduct a b explored r) (ok : IsMachine a) (distinct : AreDistinct explored.pairs)
    (first : slice_get explored.pairs 0 ≡ Some (pair_of a.start b.start))
    (each : (x : Pair) → Contains explored.pairs x ↔ Reachable (next_pairs a b) (pair_of a.start b.start) x)
    (targets : NumbersNext (next_pairs a b) explored) where
  pub product_states : machine_states r ≡ length explored.pairs
  product_states = ap length built.finals ∙ length-map explored.pairs (final_both a b)

  abbrev moves_at : ℕ → List (Move (List Bool))
  moves_at k = product_moves_at a b explored k

  product_moves : (k : ℕ) (x : Pair) → slice_get explored.pairs k ≡ Some x → moves_of r k ≡ numbered (joint_moves a b x) (get_or explored.targets k [])
  product_moves k x at =
      let below = slice_get_within explored.pairs k x at in
      ap (λ l. get_or l k []) built.moves ∙ get_or-map-range_with_len moves_at 0 (length explored.pairs) k k [] below (omega arith)
      ∙ ap (λ l. numbered l (get_or explored.targets k [])) (get_or-map (joint_moves a b) explored.pairs k x [] below ∙ ap (joint_moves a b) (get_or_from_slice_get explored.pairs k x x at))

  pub product_ok : IsMachine b → a.letters ≡ b.letters → IsMachine r
  product_ok ok_b same = record {
    each = ap length built.moves ∙ length-map-range_with_len moves_at 0 (length explored.pairs) ∙ sym product_states;
    starts = omega (arith, product_states, built.start, slice_get_within explored.pairs 0 (pair_of a.start b.start) first);
    moves = λ k d below.
        let within : k < length explored.pairs =
        omega (arith, below, ap length built.moves, length-map-range_with_len moves_at 0 (length explored.pairs)) in
        let none : Pair = pair_of 0 0 in
        let at = slice_get-get_or explored.pairs k none within in
        let x : Pair = get_or explored.pairs k none in
        subst (λ l. All (IsMove r.letters (machine_states r)) l) (sym (product_moves k x at) ∙ get_or_default r.moves k [] d below)
        (All-from_contains (IsMove r.letters (machine_states r)) (numbered (joint_moves a b x) (get_or explored.targets k [])) (λ m among.
        let found = numbered_back explored.pairs (joint_moves a b x) (get_or explored.targets k []) (targets k x at) m among in
        record {
          sized = subst (λ l. IsSized l m.kind) (sym built.letters) (subst (λ (i : Kind). IsSized a.letters i) (sym found.2) (joint_sized a b x ok ok_b same found.0 found.1));
          leads = omega (arith, product_states, slice_get_within explored.pairs m.to found.0.to found.3);
        }));
  }

  one_place : (i j : ℕ) (x : Pair) → slice_get explored.pairs i ≡ Some x → slice_get explored.pairs j ≡ Some x → i ≡ j
  one_place i j x at_i at_j = elim (cases_lt i j) [
    | inl less ↦ absurd (distinct i j x less (slice_get_within explored.pairs j x at_j) (get_or_from_slice_get explored.pairs i x x at_i ∙ sym (get_or_from_slice_get explored.pairs j x x at_j)))
    | inr more ↦ elim (cases_lt j i) [
      | inl less ↦ absurd (distinct j i x less (slice_get_within explored.pairs i x at_i) (get_or_from_slice_get explored.pairs j x x at_j ∙ sym (get_or_from_slice_get explored.pairs i x x at_i)))
      | inr same ↦ omega arith
    ]
  ]

  final_at : (k : ℕ) (x : Pair) → slice_get explored.pairs k ≡ Some x → get_or r.finals k false ≡ final_both a b x
  final_at k x at =
      let below = slice_get_within explored.pairs k x at in
      ap (λ l. get_or l k false) built.finals ∙ get_or-map (final_both a b) explored.pairs k x false below ∙ ap (final_both a b) (get_or_from_slice_get explored.pairs k x x at)

  module _ (read : ℕ → ℕ) (covers : Covers read a.letters) where
    step_back : (k t : ℕ) (x : Pair) (input output : List ℕ) → slice_get explored.pairs k ≡ Some x → HasStep read r k input output t
        → (y : Pair) × (slice_get explored.pairs t ≡ Some y) × JointStep read a b x input output y
    step_back k t x input output at step =
        let m : Move (List Bool) = record { kind = step.0; to = t } in
        let found = numbered_back explored.pairs (joint_moves a b x) (get_or explored.targets k []) (targets k x at) m (subst (λ l. Contains l m) (product_moves k x at) step.1) in
        (found.0.to, found.3, joint_in a b x read ok covers found.0 input output found.1 (subst (λ (i : Kind). Does read i input output) found.2 step.2))

    step_on : (k : ℕ) (x y : Pair) (input output : List ℕ) → slice_get explored.pairs k ≡ Some x → JointStep read a b x input output y
        → (t : ℕ) × (slice_get explored.pairs t ≡ Some y) × HasStep read r k input output t
    step_on k x y input output at step =
        let found = joint_out a b x read input output y step in
        let move = numbered_each explored.pairs (joint_moves a b x) (get_or explored.targets k []) (targets k x at) found.0 found.1 in (
          move.0,
          move.2 ∙ ap Some found.2,
          subst (λ l. StepIn read l input output move.0) (sym (product_moves k x at)) (found.0.kind, move.1, found.3),
        )

    abbrev Stands : ℕ → List ℕ → List ℕ → Type 0
    Stands k u w = (x : Pair) × (slice_get explored.pairs k ≡ Some x) × ReachThrough read a b x u w

    stands : (k : ℕ) (u w : List ℕ) → ReachR read r k u w → Stands k u w
    stands =
        reach_each read r Stands
        (λ p q u w input output reach here step.
        let next = step_back p q here.0 input output here.1 step in
        (next.0, next.1, through_step read a b here.0 next.0 u w input output here.2 next.2))
        (subst (λ n. Stands n [] []) (sym built.start) (pair_of a.start b.start, first, through_start read a b))

    abbrev Numbered : Pair → List ℕ → List ℕ → Type 0
    Numbered x u w = (k : ℕ) × (slice_get explored.pairs k ≡ Some x) × ReachR read r k u w

    numbers : (x : Pair) (u w : List ℕ) → ReachThrough read a b x u w → Numbered x u w
    numbers =
        through_each read a b Numbered (0, first, subst (λ n. ReachR read r n [] []) built.start (reach_start read r))
        (λ x y u w input output here step.
        let next = step_on here.0 x y input output here.1 step in
        (next.0, next.1, reach_step read r here.0 next.0 u w input output here.2 next.2))

    pub product_reached : (k : ℕ) (x : Pair) → slice_get explored.pairs k ≡ Some x → (u w : List ℕ) → ReachR read r k u w ↔ ReachThrough read a b x u w
    product_reached k x at u w = (
      λ reach. let here = stands k u w reach in subst (λ y. ReachThrough read a b y u w) (same_Some here.0 x (sym here.1 ∙ at)) here.2,
      λ through. let there = numbers x u w through in subst (λ n. ReachR read r n u w) (one_place there.0 k x there.1 at) there.2,
    )

    pub product_relation : (u w : List ℕ) → Relates read r u w ↔ ((middle : List ℕ) × Relates read a u middle × Relates read b middle w)
    product_relation u w = (related, λ (middle, one, two). relates middle one two)
      where
        related : Relates read r u w → (middle : List ℕ) × Relates read a u middle × Relates read b middle w
        related (k, reach, final) =
            let here = stands k u w reach in
            let parts = and_parts (get_or a.finals here.0.left false) (get_or b.finals here.0.right false) (sym (final_at k here.0 here.1) ∙ final) in
            (here.2.0, (here.0.left, here.2.1, parts.0), (here.0.right, here.2.2, parts.1))

        relates : (middle : List ℕ) → Relates read a u middle → Relates read b middle w → Relates read r u w
        relates middle (p, first_reach, first_final) (q, second_reach, second_final) =
            let there = numbers (pair_of p q) u w (middle, first_reach, second_reach) in
            (there.0, there.2, final_at there.0 (pair_of p q) there.1 ∙ and_from (get_or a.finals p false) (get_or b.finals q false) first_final second_final)

  pub product_composition : IsComposition a b explored.pairs r
  product_composition = record {
    count = sym product_states;
    distinct = distinct;
    together = λ x among. through_from_reachable a b ok x ((each x).0 among);
    all = λ x through. (each x).1 (reachable_from_through a b ok x through);
    reached = product_reached;
  }

-- ---- what was explored are pairs of states

pub explored_states : (a b : Machine) → IsMachine a → IsMachine b → (pairs : List Pair)
    → ((x : Pair) → Contains pairs x ↔ Reachable (next_pairs a b) (pair_of a.start b.start) x) → All (λ x. (x.left < machine_states a) × (x.right < machine_states b)) pairs
explored_states a b ok_a ok_b pairs each k d below =
    let x : Pair = get_or pairs k d in
    let through = through_from_reachable a b ok_a x ((each x).0 (Contains-get_or pairs k d below)) in
    (state_of_reach (λ k. k) a ok_a x.left through.0 through.2.0 through.2.1, state_of_reach (λ k. k) b ok_b x.right through.2.0 through.1 through.2.2)
