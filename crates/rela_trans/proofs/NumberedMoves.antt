-- Joint moves that get the numbers of their ends from the last to the first.
use Rattle.std.proofs.Common.{◌≡◌, ℕ, ◌+◌, ◌<◌, Bool, Some, inl, inr, List, [], ◌∷◌, ◌++◌, length, get_or, map, take, drop, reverse, refl, sym, ap, ◌∙◌, subst, arith}
use Rattle.std.specs.List.{All, slice_get}
use Rattle.std.proofs.lemmas.List.{drop_more, drop-map, get_or-map, length-map, reverse-append, reverse-reverse, map-append, same_from_push, take_more}
use Rattle.std.proofs.lemmas.List.Elements.{All-map, Contains-get_or}
use Rattle.std.proofs.lemmas.Option.{slice_get-get_or}
use Rattle.rela_pairs.specs.Exploration.{Exploration, NumbersNext}
use Rattle.rela_pairs.specs.Finding.{AreNumbers}
use Rattle.rela_pairs.specs.declared.pair.Pair.{Pair}
use Rattle.rela_trans.specs.Composition.{joint_of, joint_moves, next_pairs, numbered, product_moves_at}
use Rattle.rela_trans.specs.Machine.{Machine, IsMachine, machine_states}
use Rattle.rela_trans.specs.Stored.{kind_of}
use Rattle.rela_trans.specs.declared.joint.JointMove.{JointMove}
use Rattle.rela_trans.specs.declared.moves.Move.{Move}
use Rattle.rela_trans.proofs.JointSteps.{JointStep, joint_some}
use Rattle.rela_trans.proofs.Parts.{leads_to_state}

pub map-reverse_is : {X Y : Type 0} (f : X → Y) (xs : List X) → map f (reverse xs) ≡ reverse (map f xs)
map-reverse_is f [] = refl
map-reverse_is f (x ∷ xs) =
    ap (λ l. map f l) (reverse-append (x ∷ []) xs) ∙ map-append f (reverse xs) (x ∷ []) ∙ ap (λ l. l ++ f x ∷ []) (map-reverse_is f xs) ∙ sym (reverse-append (f x ∷ []) (map f xs))

numbered_one : (moves : List (JointMove (List Bool))) (targets : List ℕ) (n : ℕ) (j : JointMove (List Bool)) → n < length moves → n < length targets → j ≡ get_or moves n j
    → numbered (drop n moves) (drop n targets) ≡ record { kind = j.kind; to = get_or targets n 0 } ∷ numbered (drop (n + 1) moves) (drop (n + 1) targets)
numbered_one moves targets n j in_moves in_targets at =
    ap (λ l. numbered l (drop n targets)) (drop_more moves n j in_moves ∙ ap (λ i. i ∷ drop (n + 1) moves) (sym at))
    ∙ ap (λ l. numbered (j ∷ drop (n + 1) moves) l) (drop_more targets n 0 in_targets)

module _ {L : Type 0} (letters : L → List Bool) where
  pub numbered_more : (all : List (JointMove L)) (targets : List ℕ) (n : ℕ) (j : JointMove L) → n < length all → n < length targets → j ≡ get_or all n j
      → reverse (numbered (map (joint_of letters) (drop (n + 1) all)) (drop (n + 1) targets)) ++ record { kind = kind_of letters j.kind; to = get_or targets n 0 } ∷ []
      ≡ reverse (numbered (map (joint_of letters) (drop n all)) (drop n targets))
  numbered_more all targets n j in_all in_targets at =
      let f = joint_of letters in
      let rest = numbered (map f (drop (n + 1) all)) (drop (n + 1) targets) in
      let here : Move (List Bool) = record { kind = kind_of letters j.kind; to = get_or targets n 0 } in
      let at_move : f j ≡ get_or (map f all) n (f j) = ap f at ∙ sym (get_or-map f all n j (f j) in_all) in
      sym (ap reverse
      (ap (λ l. numbered l (drop n targets)) (sym (drop-map f n all)) ∙ numbered_one (map f all) targets n (f j) (omega (arith, in_all, length-map all f)) in_targets at_move
      ∙ ap (λ l. here ∷ numbered l (drop (n + 1) targets)) (drop-map f (n + 1) all))
      ∙ reverse-append (here ∷ []) rest)

  pub numbered_all : {M : Type 0} (move : M → Move (List Bool)) (moves : List M) (all : List (JointMove L)) (targets : List ℕ) (n : ℕ) → n ≡ 0
      → map move moves ≡ reverse (numbered (map (joint_of letters) (drop n all)) (drop n targets)) → map move (reverse moves) ≡ numbered (map (joint_of letters) all) targets
  numbered_all move moves all targets n none done =
      map-reverse_is move moves ∙ ap reverse (done ∙ ap (λ k. reverse (numbered (map (joint_of letters) (drop k all)) (drop k targets))) none)
      ∙ reverse-reverse (numbered (map (joint_of letters) all) targets)

-- joint moves lead to pairs of states
pub next_lead : (a b : Machine) → IsMachine a → IsMachine b → (x : Pair) → x.left < machine_states a → x.right < machine_states b
    → All (λ (y : Pair). (y.left < machine_states a) × (y.right < machine_states b)) (next_pairs a b x)
next_lead a b ok_a ok_b x left right =
    All-map (λ (y : Pair). (y.left < machine_states a) × (y.right < machine_states b)) (λ (j : JointMove (List Bool)). j.to) (joint_moves a b x)
    (λ k d below.
    let j : JointMove (List Bool) = get_or (joint_moves a b x) k d in
    let step = joint_some a b x ok_a j (Contains-get_or (joint_moves a b x) k d below) in
    within j.to step.0 step.1 step.2)
  where
    within : (y : Pair) (input output : List ℕ) → JointStep (λ i. i) a b x input output y → (y.left < machine_states a) × (y.right < machine_states b)
    within y input output step = elim step [
      | inl one ↦ (leads_to_state (λ i. i) a ok_a x.left y.left input [] one.0, subst (λ n. n < machine_states b) one.1 right)
      | inr others ↦ elim others [
        | inl two ↦ (subst (λ n. n < machine_states a) two.0 left, leads_to_state (λ i. i) b ok_b x.right y.right [] output two.1)
        | inr both ↦ (leads_to_state (λ i. i) a ok_a x.left y.left input (both.0 ∷ []) both.1, leads_to_state (λ i. i) b ok_b x.right y.right (both.0 ∷ []) output both.2)
      ]
    ]

-- the last of a front
pub popped : {X : Type 0} (all old new : List X) (n : ℕ) (x : X) → old ≡ take (n + 1) all → n < length all → old ≡ new ++ x ∷ [] → (new ≡ take n all) × (x ≡ get_or all n x)
popped all old new n x front below last = same_from_push new (take n all) x (get_or all n x) (sym last ∙ front ∙ take_more all n x below)

module _ (a b : Machine) (explored : Exploration) (number : ℕ) (below : number < length explored.pairs) (none : Pair) where
  pub targets_count : NumbersNext (next_pairs a b) explored → length (get_or explored.targets number []) ≡ length (joint_moves a b (get_or explored.pairs number none))
  targets_count targets =
      let x : Pair = get_or explored.pairs number none in
      let are : AreNumbers explored.pairs (next_pairs a b x) (get_or explored.targets number []) = targets number x (slice_get-get_or explored.pairs number none below) in
      sym (length-map (get_or explored.targets number []) (slice_get explored.pairs)) ∙ ap length are ∙ length-map (next_pairs a b x) Some
      ∙ length-map (joint_moves a b x) (λ (j : JointMove (List Bool)). j.to)

  pub product_moves_of : product_moves_at a b explored number ≡ numbered (joint_moves a b (get_or explored.pairs number none)) (get_or explored.targets number [])
  product_moves_of = ap (λ l. numbered l (get_or explored.targets number [])) (get_or-map (joint_moves a b) explored.pairs number none [] below)
