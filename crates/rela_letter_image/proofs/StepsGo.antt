-- The steps that are listed from a pair are just those by which the two go.
use Rattle.std.proofs.Common.{◌≡◌, ℕ, suc, zero, ◌<◌, ◌⊎◌, Bool, true, false, List, [], ◌∷◌, ◌++◌, length, map, filter, Option, None, Some, cond, refl, sym, ap, ◌∙◌, subst, inl, inr, arith}
use Rattle.std.specs.List.{Contains, flat_map, range_with_len, All}
use Rattle.std.specs.Option.{option_to_list}
use Rattle.std.proofs.lemmas.Bool.{cases_lt, false≢true}
use Rattle.std.proofs.lemmas.List.{get_or_default, get_or_past, get_or-map, length-map}
use Rattle.std.proofs.lemmas.List.Elements.{Contains-append_left, Contains-append_right, Contains-append_cases, All-contains, All-nil, All-filter, filter_passes}
use Rattle.std.proofs.lemmas.List.FromFn.{get_or-range_with_len, length-range_with_len}
use Rattle.rela_labels.specs.Letters.{has}
use Rattle.rela_pairs.specs.declared.pair.Pair.{Pair}
use Rattle.rela_nfa.specs.Meeting.{pair_of}
use Rattle.rela_letter_image.specs.Coarse.{coarse_of, in_coarse, fine_letters}
use Rattle.rela_letter_image.specs.Product.{Goes, GoesSilently, GoesAlone, GoTogether}
use Rattle.rela_letter_nfa.specs.declared.edge.LetterEdge.{LetterEdge}
use Rattle.rela_letter_nfa.specs.LetterAutomaton.{LetterAutomaton, silents_of, edges_of}
use Rattle.rela_trans.specs.Machine.{Machine, IsMachine, IsMove, IsSized, Kind, moves_of, machine_states}
use Rattle.rela_trans.specs.declared.moves.Move.{Move}
use Rattle.rela_trans.specs.declared.moves.MoveKind.TheVariants.{Silent, In, Out, Same}
use Rattle.rela_trans.specs.Runs.{Does}
use Rattle.rela_letter_image.specs.Steps.{JointStep, step_to, step_if, silent_steps, alone_by, read_by, alone_steps, read_steps, steps_from}

-- ---- lists

pub Contains-nil : {X : Type 0} (x : X) → Contains [] x → ⊥
Contains-nil x c = omega (arith, c.1)

pub Contains-cons_cases : {X : Type 0} (y : X) (xs : List X) (x : X) → Contains (y ∷ xs) x → (y ≡ x) ⊎ Contains xs x
Contains-cons_cases y xs x (zero, below, at) = inl at
Contains-cons_cases y xs x (suc k, below, at) = inr (k, omega (arith, below), at)

pub first_in : {X : Type 0} (x : X) (xs : List X) → Contains (x ∷ xs) x
first_in x xs = (0, omega arith, refl)

pub later_in : {X : Type 0} (y : X) (xs : List X) (x : X) → Contains xs x → Contains (y ∷ xs) x
later_in y xs x c = (suc c.0, omega (arith, c.1), c.2)

pub Contains-map : {X Y : Type 0} (f : X → Y) (xs : List X) (x : X) → Contains xs x → Contains (map f xs) (f x)
Contains-map f xs x c = (c.0, omega (arith, c.1, length-map xs f), get_or-map f xs c.0 x (f x) c.1 ∙ ap f c.2)

pub Contains-map_back : {X Y : Type 0} (f : X → Y) (xs : List X) (y : Y) → Contains (map f xs) y → (x : X) × (f x ≡ y) × Contains xs x
Contains-map_back f [] y c = absurd (Contains-nil y c)
Contains-map_back f (x ∷ xs) y c = elim (Contains-cons_cases (f x) (map f xs) y c) [
  | inl here ↦ (x, here, first_in x xs)
  | inr later ↦ let found = Contains-map_back f xs y later in (found.0, found.1, later_in x xs found.0 found.2)
]

pub in_flat_map : {X Y : Type 0} (f : X → List Y) (xs : List X) (x : X) (y : Y) → Contains xs x → Contains (f x) y → Contains (flat_map f xs) y
in_flat_map f [] x y among here = absurd (Contains-nil x among)
in_flat_map f (z ∷ xs) x y among here = elim (Contains-cons_cases z xs x among) [
  | inl first ↦ Contains-append_left (f z) (flat_map f xs) y (subst (λ u. Contains (f u) y) (sym first) here)
  | inr later ↦ Contains-append_right (f z) (flat_map f xs) y (in_flat_map f xs x y later here)
]

pub from_flat_map : {X Y : Type 0} (f : X → List Y) (xs : List X) (y : Y) → Contains (flat_map f xs) y → (x : X) × Contains xs x × Contains (f x) y
from_flat_map f [] y among = absurd (Contains-nil y among)
from_flat_map f (z ∷ xs) y among = elim (Contains-append_cases (f z) (flat_map f xs) y among) [
  | inl first ↦ (z, first_in z xs, first)
  | inr later ↦ let found = from_flat_map f xs y later in (found.0, later_in z xs found.0 found.1, found.2)
]

pub in_filter : {X : Type 0} (p : X → Bool) (xs : List X) (x : X) → Contains xs x → p x ≡ true → Contains (filter p xs) x
in_filter p [] x among passes = absurd (Contains-nil x among)
in_filter p (y ∷ xs) x among passes = elim (Contains-cons_cases y xs x among) [
  | inl here ↦ subst (λ b. Contains (cond b (y ∷ filter p xs) (filter p xs)) x) (sym (ap p here ∙ passes)) (subst (λ z. Contains (y ∷ filter p xs) z) here (first_in y (filter p xs)))
  | inr later ↦ kept (p y) (in_filter p xs x later passes)
]
  where
    kept : (b : Bool) → Contains (filter p xs) x → Contains (cond b (y ∷ filter p xs) (filter p xs)) x
    kept true c = later_in y (filter p xs) x c
    kept false c = c

pub in_range : (n k : ℕ) → k < n → Contains (range_with_len 0 n) k
in_range n k below = (k, omega (arith, below, length-range_with_len 0 n), get_or-range_with_len 0 n k k below ∙ omega arith)

-- ---- the letters of a coarse set

module _ (letters : ℕ) (coarse : List ℕ) (set : List Bool) where
  coarse_at : (k : ℕ) → k < length coarse → in_coarse coarse set k ≡ has set (coarse_of letters coarse k)
  coarse_at k below = ap (has set) (get_or_default coarse k 0 letters below)

  pub fine_in : length set ≡ letters → (k : ℕ) → has set (coarse_of letters coarse k) ≡ true → Contains (fine_letters coarse set) k
  fine_in size k among = in_filter (in_coarse coarse set) (range_with_len 0 (length coarse)) k (in_range (length coarse) k below) (coarse_at k below ∙ among)
    where
      below : k < length coarse
      below = elim (cases_lt k (length coarse)) [
        | inl less ↦ less
        | inr past ↦ absurd (false≢true (sym (ap (has set) (get_or_past coarse k letters past) ∙ get_or_past set letters false (omega (arith, size))) ∙ among))
      ]

  range_below : All (λ j. j < length coarse) (range_with_len 0 (length coarse))
  range_below k d below = omega (arith, get_or-range_with_len 0 (length coarse) k d (omega (arith, below, length-range_with_len 0 (length coarse))), length-range_with_len 0 (length coarse))

  pub fine_has : (k : ℕ) → Contains (fine_letters coarse set) k → has set (coarse_of letters coarse k) ≡ true
  fine_has k among =
      let test = in_coarse coarse set in
      let range = range_with_len 0 (length coarse) in
      let below = All-contains (λ j. j < length coarse) (filter test range) k (All-filter test (λ j. j < length coarse) range range_below) among in
      let passes = All-contains (λ j. test j ≡ true) (filter test range) k (filter_passes test range) among in
      sym (coarse_at k below) ∙ passes

-- ---- one step that may be taken

in_step_if : (can : Bool) (step : JointStep) → can ≡ true → Contains (step_if can step) step
in_step_if can step holds = subst (λ b. Contains (step_if b step) step) (sym holds) (first_in step [])

from_step_if : (can : Bool) (step other : JointStep) → Contains (step_if can step) other → (can ≡ true) × (step ≡ other)
from_step_if true step other among = elim (Contains-cons_cases step [] other among) [ inl here ↦ (refl, here) | inr none ↦ absurd (Contains-nil other none) ]
from_step_if false step other among = absurd (Contains-nil other among)

module _ (coarse : List ℕ) (a : LetterAutomaton) (t : Machine) (ok : IsMachine t) where
  abbrev read : ℕ → ℕ
  read = coarse_of t.letters coarse

  -- a move, with what is done by it
  sized : (q : ℕ) (m : Move (List Bool)) → Contains (moves_of t q) m → IsSized t.letters m.kind
  sized q m among = (All-contains (IsMove t.letters (machine_states t)) (moves_of t q) m moves_ok among).sized
    where
      moves_ok : All (IsMove t.letters (machine_states t)) (moves_of t q)
      moves_ok = elim (cases_lt q (machine_states t)) [
        | inl below ↦ ok.moves q [] (omega (arith, ok.each))
        | inr past ↦ subst (λ l. All (IsMove t.letters (machine_states t)) l) (sym (get_or_past t.moves q [] (omega (arith, ok.each)))) (All-nil (IsMove t.letters (machine_states t)))
      ]

  module _ (x : Pair) where
    abbrev silents : List JointStep
    silents = silent_steps x.right (silents_of a x.left)

    abbrev alones : List JointStep
    alones = alone_steps coarse x.left (moves_of t x.right)

    abbrev reads_by : LetterEdge → List JointStep
    reads_by e = read_steps (read e.letter) e (moves_of t x.right)

    abbrev reads : List JointStep
    reads = flat_map reads_by (edges_of a x.left)

    -- ---- from the list

    abbrev GoesBy : JointStep → Type 0
    GoesBy step = Goes read a t x step.letter step.to

    goes_silently : (step : JointStep) → Contains silents step → GoesBy step
    goes_silently step among =
        let found = Contains-map_back (λ q. step_to None (pair_of q x.right)) (silents_of a x.left) step among in
        subst GoesBy found.1 (inl (refl, (found.2, refl)))

    alone_does : (kind : Kind) (to : ℕ) (step : JointStep) → Contains (moves_of t x.right) (record { kind = kind; to = to })
        → Contains (alone_by coarse kind (pair_of x.left to)) step → GoesBy step
    alone_does Silent to step move among = elim (Contains-cons_cases _ [] step among) [
      | inl here ↦ subst GoesBy here (inr (inl (refl, (Silent, move, (refl, refl)))))
      | inr none ↦ absurd (Contains-nil step none)
    ]
    alone_does (In set) to step move among = absurd (Contains-nil step among)
    alone_does (Out set) to step move among =
        let found = Contains-map_back (λ k. step_to (Some k) (pair_of x.left to)) (fine_letters coarse set) step among in
        let letter = fine_has t.letters coarse set found.0 found.2 in
        subst GoesBy found.1 (inr (inl (refl, (Out set, move, (refl, (found.0, letter, refl))))))
    alone_does (Same set) to step move among = absurd (Contains-nil step among)

    read_does : (e : LetterEdge) (kind : Kind) (to : ℕ) (step : JointStep) → Contains (edges_of a x.left) e → Contains (moves_of t x.right) (record { kind = kind; to = to })
        → Contains (read_by (read e.letter) e.letter kind (pair_of e.to to)) step → GoesBy step
    read_does e Silent to step edge move among = absurd (Contains-nil step among)
    read_does e (In set) to step edge move among =
        let can = from_step_if (has set (read e.letter)) (step_to None (pair_of e.to to)) step among in
        subst GoesBy can.1 (inr (inr (e.letter, edge, (In set, move, ((e.letter, can.0, refl), refl)))))
    read_does e (Out set) to step edge move among = absurd (Contains-nil step among)
    read_does e (Same set) to step edge move among =
        let can = from_step_if (has set (read e.letter)) (step_to (Some e.letter) (pair_of e.to to)) step among in
        subst GoesBy can.1 (inr (inr (e.letter, edge, (Same set, move, ((e.letter, can.0, refl), refl)))))

    pub steps_go : (step : JointStep) → Contains (steps_from coarse a t x) step → GoesBy step
    steps_go step among = elim (Contains-append_cases (silents ++ alones) reads step among) [
      | inl alone ↦ elim (Contains-append_cases silents alones step alone) [
        | inl silent ↦ goes_silently step silent
        | inr by ↦
            let found = from_flat_map (λ m. alone_by coarse m.kind (pair_of x.left m.to)) (moves_of t x.right) step by in
            alone_does found.0.kind found.0.to step found.1 found.2
      ]
      | inr both ↦
          let edge = from_flat_map reads_by (edges_of a x.left) step both in
          let move = from_flat_map (λ m. read_by (read edge.0.letter) edge.0.letter m.kind (pair_of edge.0.to m.to)) (moves_of t x.right) step edge.2 in
          read_does edge.0 move.0.kind move.0.to step edge.1 move.1 move.2
    ]

    -- ---- into the list

    abbrev Listed : Option ℕ → Pair → Type 0
    Listed letter y = Contains (steps_from coarse a t x) (step_to letter y)

    silent_listed : (letter : Option ℕ) (y : Pair) → letter ≡ None → GoesSilently a x y → Listed letter y
    silent_listed letter y none goes =
        let at : Contains silents (step_to None (pair_of y.left x.right)) = Contains-map (λ q. step_to None (pair_of q x.right)) (silents_of a x.left) y.left goes.0 in
        let same : step_to None (pair_of y.left x.right) ≡ step_to letter y = λ i. step_to (sym none i) (pair_of y.left (goes.1 i)) in
        Contains-append_left (silents ++ alones) reads (step_to letter y) (Contains-append_left silents alones (step_to letter y) (subst (Contains silents) same at))

    alone_in : (kind : Kind) (letter : Option ℕ) (to : Pair) → IsSized t.letters kind → Does read kind [] (option_to_list letter) → Contains (alone_by coarse kind to) (step_to letter to)
    alone_in Silent None to size does = first_in _ []
    alone_in Silent (Some k) to size does = absurd (nonempty does.1)
      where
        nonempty : k ∷ [] ≡ [] → ⊥
        nonempty e = cc
    alone_in (In set) letter to size does = absurd (empty does.0.2)
      where
        empty : {k : ℕ} → [] ≡ k ∷ [] → ⊥
        empty e = cc
    alone_in (Out set) None to size does = absurd (empty does.1.2)
      where
        empty : {k : ℕ} → [] ≡ k ∷ [] → ⊥
        empty e = cc
    alone_in (Out set) (Some k) to size does =
        Contains-map (λ j. step_to (Some j) to) (fine_letters coarse set) k (fine_in t.letters coarse set size k (subst (λ j. has set (read j) ≡ true) (same does.1.2) does.1.1))
      where
        same : {j : ℕ} → k ∷ [] ≡ j ∷ [] → j ≡ k
        same e = cc
    alone_in (Same set) letter to size does = absurd (empty does.0.2)
      where
        empty : {k : ℕ} → [] ≡ k ∷ [] → ⊥
        empty e = cc

    alone_listed : (letter : Option ℕ) (y : Pair) → GoesAlone read t x letter y → Listed letter y
    alone_listed letter y (stays, (kind, move, does)) =
        let m : Move (List Bool) = record { kind = kind; to = y.right } in
        let here = alone_in kind letter (pair_of x.left y.right) (sized x.right m move) does in
        let at : Contains alones (step_to letter (pair_of x.left y.right)) =
        in_flat_map (λ n. alone_by coarse n.kind (pair_of x.left n.to)) (moves_of t x.right) m (step_to letter (pair_of x.left y.right)) move here in
        let same : step_to letter (pair_of x.left y.right) ≡ step_to letter y = λ i. step_to letter (pair_of (stays i) y.right) in
        Contains-append_left (silents ++ alones) reads (step_to letter y) (Contains-append_right silents alones (step_to letter y) (subst (Contains alones) same at))

    read_in : (k : ℕ) (kind : Kind) (letter : Option ℕ) (to : Pair) → Does read kind (k ∷ []) (option_to_list letter) → Contains (read_by (read k) k kind to) (step_to letter to)
    read_in k Silent letter to does = absurd (nonempty does.0)
      where
        nonempty : k ∷ [] ≡ [] → ⊥
        nonempty e = cc
    read_in k (In set) None to does = in_step_if (has set (read k)) (step_to None to) (subst (λ j. has set (read j) ≡ true) (same does.0.2) does.0.1)
      where
        same : {j : ℕ} → k ∷ [] ≡ j ∷ [] → j ≡ k
        same e = cc
    read_in k (In set) (Some j) to does = absurd (nonempty does.1)
      where
        nonempty : j ∷ [] ≡ [] → ⊥
        nonempty e = cc
    read_in k (Out set) letter to does = absurd (nonempty does.0)
      where
        nonempty : k ∷ [] ≡ [] → ⊥
        nonempty e = cc
    read_in k (Same set) None to does = absurd (empty does.1)
      where
        empty : [] ≡ k ∷ [] → ⊥
        empty e = cc
    read_in k (Same set) (Some j) to does =
        subst (λ i. Contains (read_by (read k) k (Same set) to) (step_to (Some i) to)) (sym (same does.1))
        (in_step_if (has set (read k)) (step_to (Some k) to) (subst (λ i. has set (read i) ≡ true) (sym (same does.0.2)) does.0.1))
      where
        same : {i n : ℕ} → i ∷ [] ≡ n ∷ [] → i ≡ n
        same e = cc

    both_listed : (letter : Option ℕ) (y : Pair) → GoTogether read a t x letter y → Listed letter y
    both_listed letter y (k, edge, (kind, move, does)) =
        let e : LetterEdge = record { letter = k; to = y.left } in
        let m : Move (List Bool) = record { kind = kind; to = y.right } in
        let at = in_flat_map (λ n. read_by (read k) k n.kind (pair_of y.left n.to)) (moves_of t x.right) m (step_to letter y) move (read_in k kind letter y does) in
        Contains-append_right (silents ++ alones) reads (step_to letter y) (in_flat_map reads_by (edges_of a x.left) e (step_to letter y) edge at)

    pub goes_listed : (letter : Option ℕ) (y : Pair) → Goes read a t x letter y → Contains (steps_from coarse a t x) (step_to letter y)
    goes_listed letter y goes = elim goes [
      | inl silent ↦ silent_listed letter y silent.0 silent.1
      | inr others ↦ elim others [ inl alone ↦ alone_listed letter y alone | inr both ↦ both_listed letter y both ]
    ]
