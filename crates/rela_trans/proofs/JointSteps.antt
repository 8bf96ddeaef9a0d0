-- Moves of two transducers, the second reading what the first writes.
use Rattle.std.proofs.Common.{◌≡◌, ℕ, ◌⊎◌, Bool, List, [], ◌∷◌, ◌++◌, length, Option, None, Some, refl, sym, ap, ◌∙◌, subst, inl, inr, arith, length-append}
use Rattle.std.specs.List.{Contains, flat_map}
use Rattle.std.proofs.lemmas.List.{append-nil, same_from_push}
use Rattle.std.proofs.lemmas.List.Elements.{Contains-append_left, Contains-append_right, Contains-append_cases, All-contains}
use Rattle.rela_pairs.specs.declared.pair.Pair.{Pair}
use Rattle.rela_nfa.specs.Meeting.{pair_of}
use Rattle.rela_trans.specs.Composition.{Covers, ReachThrough, first_alone, second_alone, both_by_letter, made, first_moves, second_moves, moves_with, joint_moves}
use Rattle.rela_trans.specs.Machine.{Machine, Kind, IsMachine, IsMove, IsSized, moves_of, machine_states}
use Rattle.rela_trans.specs.Runs.{Does, HasStep, ReachR}
use Rattle.rela_trans.specs.declared.joint.JointMove.{JointMove}
use Rattle.rela_trans.specs.declared.moves.Move.{Move}
use Rattle.rela_trans.specs.declared.moves.MoveKind.TheVariants.{Silent, In, Out, Same}
use Rattle.rela_trans.proofs.Accessors.{moves_ok}
use Rattle.rela_trans.proofs.KindsTogether.{CanBeDone, first_does, second_does, both_does, first_made, second_made, both_made, first_can, second_can, both_can, first_sized, second_sized, both_sized}
use Rattle.rela_trans.proofs.ListLaws.{in_flat_map, from_flat_map, Contains-nil, Contains-cons_cases}
use Rattle.rela_trans.proofs.Reaching.{subst_pair, reach_start, reach_step, reach_each}

-- ---- a joint step: one alone, or both by one symbol, which the first writes and the second reads

abbrev pub JointStep : (ℕ → ℕ) → Machine → Machine → Pair → List ℕ → List ℕ → Pair → Type 0
JointStep read a b x input output y =
    (HasStep read a x.left input [] y.left × (x.right ≡ y.right) × (output ≡ []))
    ⊎ (((x.left ≡ y.left) × HasStep read b x.right [] output y.right × (input ≡ []))
    ⊎ ((c : ℕ) × HasStep read a x.left input (c ∷ []) y.left × HasStep read b x.right (c ∷ []) output y.right))

made_only : (kind : Option Kind) (to : Pair) (j : JointMove (List Bool)) → Contains (made kind to) j → (kind ≡ Some j.kind) × (j.to ≡ to)
made_only None to j among = absurd (Contains-nil j among)
made_only (Some kind) to j among = elim (Contains-cons_cases _ [] j among) [
  | inl same ↦ (ap (λ (i : JointMove (List Bool)). Some i.kind) same, ap (λ (i : JointMove (List Bool)). i.to) (sym same))
  | inr none ↦ absurd (Contains-nil j none)
]

in_made : (kind : Option Kind) (some : Kind) (to : Pair) → kind ≡ Some some → Contains (made kind to) (record { kind = some; to = to })
in_made kind some to e = subst (λ o. Contains (made o to) (record { kind = some; to = to })) (sym e) (0, omega arith, refl)

module _ (a b : Machine) (x : Pair) where
  abbrev firsts : List (JointMove (List Bool))
  firsts = first_moves x.right (moves_of a x.left)

  abbrev seconds : List (JointMove (List Bool))
  seconds = second_moves x.left (moves_of b x.right)

  abbrev boths : List (JointMove (List Bool))
  boths = flat_map (λ m. moves_with m (moves_of b x.right)) (moves_of a x.left)

  -- a move of the first alone
  abbrev IsFirst : JointMove (List Bool) → Type 0
  IsFirst j = (m : Move (List Bool)) × Contains (moves_of a x.left) m × (first_alone m.kind ≡ Some j.kind) × (j.to ≡ pair_of m.to x.right)

  -- a move of the second alone
  abbrev IsSecond : JointMove (List Bool) → Type 0
  IsSecond j = (n : Move (List Bool)) × Contains (moves_of b x.right) n × (second_alone n.kind ≡ Some j.kind) × (j.to ≡ pair_of x.left n.to)

  -- a move of each
  abbrev IsBoth : JointMove (List Bool) → Type 0
  IsBoth j =
      (m : Move (List Bool)) × (n : Move (List Bool)) × Contains (moves_of a x.left) m × Contains (moves_of b x.right) n
      × (both_by_letter m.kind n.kind ≡ Some j.kind) × (j.to ≡ pair_of m.to n.to)

  joint_cases : (j : JointMove (List Bool)) → Contains (joint_moves a b x) j → IsFirst j ⊎ (IsSecond j ⊎ IsBoth j)
  joint_cases j among = elim (Contains-append_cases (firsts ++ seconds) boths j among) [
    | inl alone ↦ elim (Contains-append_cases firsts seconds j alone) [
      | inl first ↦
          let found = from_flat_map (λ m. made (first_alone m.kind) (pair_of m.to x.right)) (moves_of a x.left) j first in
          let only = made_only (first_alone found.0.kind) (pair_of found.0.to x.right) j found.2 in
          inl (found.0, found.1, only.0, only.1)
      | inr second ↦
          let found = from_flat_map (λ n. made (second_alone n.kind) (pair_of x.left n.to)) (moves_of b x.right) j second in
          let only = made_only (second_alone found.0.kind) (pair_of x.left found.0.to) j found.2 in
          inr (inl (found.0, found.1, only.0, only.1))
    ]
    | inr both ↦
        let one = from_flat_map (λ m. moves_with m (moves_of b x.right)) (moves_of a x.left) j both in
        let two = from_flat_map (λ n. made (both_by_letter one.0.kind n.kind) (pair_of one.0.to n.to)) (moves_of b x.right) j one.2 in
        let only = made_only (both_by_letter one.0.kind two.0.kind) (pair_of one.0.to two.0.to) j two.2 in
        inr (inr (one.0, two.0, one.1, two.1, only.0, only.1))
  ]

  -- a set has one boolean for each letter
  pub joint_sized : IsMachine a → IsMachine b → a.letters ≡ b.letters → (j : JointMove (List Bool)) → Contains (joint_moves a b x) j → IsSized a.letters j.kind
  joint_sized ok_a ok_b same j among = elim (joint_cases j among) [
    | inl first ↦ first_sized a.letters first.0.kind j.kind (All-contains (IsMove a.letters (machine_states a)) (moves_of a x.left) first.0 (moves_ok a ok_a x.left) first.1).sized first.2
    | inr others ↦ elim others [
      | inl second ↦
          second_sized a.letters second.0.kind j.kind
          (subst (λ l. IsSized l second.0.kind) (sym same) (All-contains (IsMove b.letters (machine_states b)) (moves_of b x.right) second.0 (moves_ok b ok_b x.right) second.1).sized) second.2
      | inr both ↦
          both_sized a.letters both.0.kind both.1.kind j.kind (All-contains (IsMove a.letters (machine_states a)) (moves_of a x.left) both.0 (moves_ok a ok_a x.left) both.2).sized both.4
    ]
  ]

  module _ (read : ℕ → ℕ) where
    first_step : (j : JointMove (List Bool)) (input output : List ℕ) → Does read j.kind input output → IsFirst j → JointStep read a b x input output j.to
    first_step j input output does first =
        let alone = first_does read input output first.0.kind j.kind first.2 does in
        subst (λ y. JointStep read a b x input output y) (sym first.3) (inl ((first.0.kind, first.1, alone.0), refl, alone.1))

    second_step : (j : JointMove (List Bool)) (input output : List ℕ) → Does read j.kind input output → IsSecond j → JointStep read a b x input output j.to
    second_step j input output does second =
        let alone = second_does read input output second.0.kind j.kind second.2 does in
        subst (λ y. JointStep read a b x input output y) (sym second.3) (inr (inl (refl, (second.0.kind, second.1, alone.0), alone.1)))

    -- what is done by a joint move is a joint step
    pub joint_in : IsMachine a → Covers read a.letters → (j : JointMove (List Bool)) (input output : List ℕ) → Contains (joint_moves a b x) j → Does read j.kind input output
        → JointStep read a b x input output j.to
    joint_in ok covers j input output among does = elim (joint_cases j among) [
      | inl first ↦ first_step j input output does first
      | inr others ↦ elim others [
        | inl second ↦ second_step j input output does second
        | inr both ↦
            let size = (All-contains (IsMove a.letters (machine_states a)) (moves_of a x.left) both.0 (moves_ok a ok x.left) both.2).sized in
            let parts = both_does read input output a.letters covers both.0.kind both.1.kind j.kind size both.4 does in
            subst (λ y. JointStep read a b x input output y) (sym both.5) (inr (inr (parts.0, (both.0.kind, both.2, parts.1), (both.1.kind, both.3, parts.2))))
      ]
    ]

    abbrev Made : List ℕ → List ℕ → Pair → Type 0
    Made input output y = (j : JointMove (List Bool)) × Contains (joint_moves a b x) j × (j.to ≡ y) × Does read j.kind input output

    -- each joint step is done by a joint move
    pub joint_out : (input output : List ℕ) (y : Pair) → JointStep read a b x input output y → Made input output y
    joint_out input output y step = elim step [
      | inl first ↦ first_out first.0 first.1 first.2
      | inr others ↦ elim others [
        | inl second ↦ second_out second.0 second.1 second.2
        | inr both ↦ both_out both.0 both.1 both.2
      ]
    ]
      where
        first_out : HasStep read a x.left input [] y.left → x.right ≡ y.right → output ≡ [] → Made input output y
        first_out step stays none =
            let m : Move (List Bool) = record { kind = step.0; to = y.left } in
            let alone = first_made read input output step.0 step.2 in
            let j : JointMove (List Bool) = record { kind = alone.0; to = pair_of y.left x.right } in (
              j,
              Contains-append_left (firsts ++ seconds) boths j (Contains-append_left firsts seconds j
                  (in_flat_map (λ n. made (first_alone n.kind) (pair_of n.to x.right)) (moves_of a x.left) m j step.1 (in_made (first_alone step.0) alone.0 (pair_of y.left x.right) alone.1))),
              (λ i. pair_of y.left (stays i)),
              subst (λ w. Does read alone.0 input w) (sym none) alone.2,
            )

        second_out : x.left ≡ y.left → HasStep read b x.right [] output y.right → input ≡ [] → Made input output y
        second_out stays step none =
            let n : Move (List Bool) = record { kind = step.0; to = y.right } in
            let alone = second_made read input output step.0 step.2 in
            let j : JointMove (List Bool) = record { kind = alone.0; to = pair_of x.left y.right } in (
              j,
              Contains-append_left (firsts ++ seconds) boths j (Contains-append_right firsts seconds j
                  (in_flat_map (λ m. made (second_alone m.kind) (pair_of x.left m.to)) (moves_of b x.right) n j step.1 (in_made (second_alone step.0) alone.0 (pair_of x.left y.right) alone.1))),
              (λ i. pair_of (stays i) y.right),
              subst (λ w. Does read alone.0 w output) (sym none) alone.2,
            )

        both_out : (c : ℕ) → HasStep read a x.left input (c ∷ []) y.left → HasStep read b x.right (c ∷ []) output y.right → Made input output y
        both_out c one two =
            let m : Move (List Bool) = record { kind = one.0; to = y.left } in
            let n : Move (List Bool) = record { kind = two.0; to = y.right } in
            let both = both_made read input output one.0 two.0 c one.2 two.2 in
            let j : JointMove (List Bool) = record { kind = both.0; to = y } in (
              j,
              Contains-append_right (firsts ++ seconds) boths j
                  (in_flat_map (λ p. moves_with p (moves_of b x.right)) (moves_of a x.left) m j one.1
                  (in_flat_map (λ q. made (both_by_letter one.0 q.kind) (pair_of y.left q.to)) (moves_of b x.right) n j two.1 (in_made (both_by_letter one.0 two.0) both.0 y both.1))),
              refl,
              both.2,
            )

  -- each joint move can be made, over letters
  pub joint_some : IsMachine a → (j : JointMove (List Bool)) → Contains (joint_moves a b x) j → (input : List ℕ) × (output : List ℕ) × JointStep (λ k. k) a b x input output j.to
  joint_some ok j among =
      let can = possible j among in
      (can.0, can.1, joint_in (λ k. k) ok (λ k below. (k, refl)) j can.0 can.1 among can.2)
    where
      possible : (j : JointMove (List Bool)) → Contains (joint_moves a b x) j → CanBeDone j.kind
      possible j among = elim (joint_cases j among) [
        | inl first ↦ first_can first.0.kind j.kind first.2
        | inr others ↦ elim others [ inl second ↦ second_can second.0.kind j.kind second.2 | inr both ↦ both_can both.0.kind both.1.kind j.kind both.4 ]
      ]

-- ---- pairs of words that lead to a pair of states

module _ (read : ℕ → ℕ) (a b : Machine) where
  pub through_start : ReachThrough read a b (pair_of a.start b.start) [] []
  through_start = ([], reach_start read a, reach_start read b)

  pub through_step : (x y : Pair) (u w input output : List ℕ) → ReachThrough read a b x u w → JointStep read a b x input output y → ReachThrough read a b y (u ++ input) (w ++ output)
  through_step x y u w input output (middle, one, two) step = elim step [
    | inl first ↦ (
      middle,
      subst (λ m. ReachR read a y.left (u ++ input) m) (append-nil middle) (reach_step read a x.left y.left u middle input [] one first.0),
      subst_pair (ReachR read b y.right) refl (sym (append-nil w) ∙ ap (λ l. w ++ l) (sym first.2)) (subst (λ n. ReachR read b n middle w) first.1 two),
    )
    | inr others ↦ elim others [
      | inl second ↦ (
        middle,
        subst_pair (ReachR read a y.left) (sym (append-nil u) ∙ ap (λ l. u ++ l) (sym second.2)) refl (subst (λ n. ReachR read a n u middle) second.0 one),
        subst (λ m. ReachR read b y.right m (w ++ output)) (append-nil middle) (reach_step read b x.right y.right middle w [] output two second.1),
      )
      | inr both ↦ (
        middle ++ both.0 ∷ [],
        reach_step read a x.left y.left u middle input (both.0 ∷ []) one both.1,
        reach_step read b x.right y.right middle w (both.0 ∷ []) output two both.2,
      )
    ]
  ]

  -- the word that a move reads or writes is empty or one symbol
  nothing_or_one : (kind : Kind) (input output : List ℕ) → Does read kind input output → (input ≡ []) ⊎ ((c : ℕ) × (input ≡ c ∷ []))
  nothing_or_one Silent input output does = inl does.0
  nothing_or_one (In set) input output does = inr (does.0.0, does.0.2)
  nothing_or_one (Out set) input output does = inl does.0
  nothing_or_one (Same set) input output does = inr (does.0.0, does.0.2)

  nothing_or_one_out : (kind : Kind) (input output : List ℕ) → Does read kind input output → (output ≡ []) ⊎ ((c : ℕ) × (output ≡ c ∷ []))
  nothing_or_one_out Silent input output does = inl does.1
  nothing_or_one_out (In set) input output does = inl does.1
  nothing_or_one_out (Out set) input output does = inr (does.1.0, does.1.2)
  nothing_or_one_out (Same set) input output does = inr (does.0.0, does.1 ∙ does.0.2)

  -- what holds at the two starts and is kept by joint steps holds wherever two words lead
  module _ (C : Pair → List ℕ → List ℕ → Type 0) (starts : C (pair_of a.start b.start) [] [])
      (kept : (x y : Pair) (u w input output : List ℕ) → C x u w → JointStep read a b x input output y → C y (u ++ input) (w ++ output)) where
    first_alone_step : (p r q : ℕ) (u w input : List ℕ) → C (pair_of p q) u w → HasStep read a p input [] r → C (pair_of r q) (u ++ input) w
    first_alone_step p r q u w input here step = subst (λ l. C (pair_of r q) (u ++ input) l) (append-nil w) (kept (pair_of p q) (pair_of r q) u w input [] here (inl (step, refl, refl)))

    second_alone_step : (p q s : ℕ) (u w output : List ℕ) → C (pair_of p q) u w → HasStep read b q [] output s → C (pair_of p s) u (w ++ output)
    second_alone_step p q s u w output here step =
        subst (λ l. C (pair_of p s) l (w ++ output)) (append-nil u) (kept (pair_of p q) (pair_of p s) u w [] output here (inr (inl (refl, step, refl))))

    at_start : (q : ℕ) (w : List ℕ) → ReachR read b q [] w → C (pair_of a.start q) [] w
    at_start q w reach =
        reach_each read b (λ s m v. m ≡ [] → C (pair_of a.start s) [] v)
        (λ s t m v input output reads there step nil. one s t m v input output there step nil (nothing_or_one step.0 input output step.2)) (λ nil. starts) q [] w reach refl
      where
        one : (s t : ℕ) (m v input output : List ℕ) → (m ≡ [] → C (pair_of a.start s) [] v) → HasStep read b s input output t → m ++ input ≡ []
            → (input ≡ []) ⊎ ((c : ℕ) × (input ≡ c ∷ [])) → C (pair_of a.start t) [] (v ++ output)
        one s t m v input output there step nil which = elim which [
          | inl none ↦
              second_alone_step a.start s t [] v output (there (sym (append-nil m) ∙ ap (λ l. m ++ l) (sym none) ∙ nil)) (subst (λ l. HasStep read b s l output t) none step)
          | inr some ↦ absurd (omega (arith, ap length nil, length-append m input, ap length some.1))
        ]

    after_symbol : (p r c : ℕ) (u m input : List ℕ) → ((q : ℕ) (w : List ℕ) → ReachR read b q m w → C (pair_of p q) u w) → HasStep read a p input (c ∷ []) r
        → (q : ℕ) (w : List ℕ) → ReachR read b q (m ++ c ∷ []) w → C (pair_of r q) (u ++ input) w
    after_symbol p r c u m input before first q w reach =
        reach_each read b (λ s n v. n ≡ m ++ c ∷ [] → C (pair_of r s) (u ++ input) v)
        (λ s t n v read_in written reads there step same. one s t n v read_in written reads there step same (nothing_or_one step.0 read_in written step.2))
        (λ same. absurd (omega (arith, ap length same, length-append m (c ∷ [])))) q (m ++ c ∷ []) w reach refl
      where
        one : (s t : ℕ) (n v read_in written : List ℕ) → ReachR read b s n v → (n ≡ m ++ c ∷ [] → C (pair_of r s) (u ++ input) v) → HasStep read b s read_in written t
            → n ++ read_in ≡ m ++ c ∷ [] → (read_in ≡ []) ⊎ ((d : ℕ) × (read_in ≡ d ∷ [])) → C (pair_of r t) (u ++ input) (v ++ written)
        one s t n v read_in written reads there step same which = elim which [
          | inl none ↦
              second_alone_step r s t (u ++ input) v written (there (sym (append-nil n) ∙ ap (λ l. n ++ l) (sym none) ∙ same)) (subst (λ l. HasStep read b s l written t) none step)
          | inr some ↦
              let parts = same_from_push n m some.0 c (ap (λ l. n ++ l) (sym some.1) ∙ same) in
              let here : C (pair_of p s) u v = before s v (subst (λ l. ReachR read b s l v) parts.0 reads) in
              let reading : HasStep read b s (c ∷ []) written t = subst (λ l. HasStep read b s l written t) (some.1 ∙ ap (λ d. d ∷ []) parts.1) step in
              kept (pair_of p s) (pair_of r t) u v input written here (inr (inr (c, first, reading)))
        ]

    pub through_each : (x : Pair) (u w : List ℕ) → ReachThrough read a b x u w → C x u w
    through_each x u w (middle, first, second) =
        reach_each read a (λ p y m. (q : ℕ) (v : List ℕ) → ReachR read b q m v → C (pair_of p q) y v)
        (λ p r y m input output reads there step. one p r y m input output there step (nothing_or_one_out step.0 input output step.2)) at_start x.left u middle first x.right w second
      where
        one : (p r : ℕ) (y m input output : List ℕ) → ((q : ℕ) (v : List ℕ) → ReachR read b q m v → C (pair_of p q) y v) → HasStep read a p input output r
            → (output ≡ []) ⊎ ((c : ℕ) × (output ≡ c ∷ [])) → (q : ℕ) (v : List ℕ) → ReachR read b q (m ++ output) v → C (pair_of r q) (y ++ input) v
        one p r y m input output there step which q v reach = elim which [
          | inl none ↦
              first_alone_step p r q y v input (there q v (subst (λ l. ReachR read b q l v) (ap (λ l. m ++ l) none ∙ append-nil m) reach)) (subst (λ l. HasStep read a p input l r) none step)
          | inr some ↦ after_symbol p r some.0 y m input there (subst (λ l. HasStep read a p input l r) some.1 step) q v (subst (λ l. ReachR read b q (m ++ l) v) some.1 reach)
        ]
