-- Edges that two automata take together.
use Rattle.std.proofs.Common.{◌≡◌, ℕ, zero, suc, ◌<◌, ◌⊎◌, ◌&&◌, Bool, true, false, if◌then◌else◌, List, [], ◌∷◌, ◌++◌, length, Option, None, Some, refl, sym, ap, ◌∙◌, subst, inl, inr, arith, length-append}
use Rattle.std.specs.List.{Contains, flat_map, list_any}
use Rattle.std.specs.Option.{ForSome, option_to_list}
use Rattle.std.proofs.lemmas.Bool.{cases_Bool, cases_lt, false_from_ne_true, true_from_ne_false, false≢true, and_parts, and_from, or_cases, or_left, or_right}
use Rattle.std.proofs.lemmas.List.{append-nil, ext_get_or, get_or_past, same_from_push}
use Rattle.std.proofs.lemmas.List.Elements.{Contains-append_left, Contains-append_right, Contains-append_cases, All-contains}
use Rattle.std.proofs.lemmas.Option.{same_Some}
use Rattle.std.proofs.lemmas.List.FromFn.{get_or-map-range_with_len, length-map-range_with_len}
use Rattle.rela_labels.specs.Letters.{has}
use Rattle.rela_pairs.specs.declared.pair.Pair.{Pair}
use Rattle.rela_nfa.specs.Automaton.{Automaton, Move, IsAutomaton, IsMove, moves_of, states}
use Rattle.rela_nfa.specs.Meeting.{ReachBoth, JointMove, common, labelled_both, silent_one, pair_of, left_moves, right_moves, moves_with, joint_moves}
use Rattle.rela_nfa.specs.Reading.{takes}
use Rattle.rela_nfa.specs.Runs.{StepIn, HasStep, Reach}
use Rattle.rela_nfa.proofs.Moves.{Contains-nil, Contains-cons_cases}
use Rattle.rela_nfa.proofs.Parts.{moves_ok}
use Rattle.rela_nfa.proofs.Reaching.{reach_start, reach_step, reach_silent, reach_each}

-- ---- a step is an edge that takes the letter

pub step_edge : (moves : List Move) (letter : Option ℕ) (q : ℕ) → StepIn moves letter q → (m : Move) × Contains moves m × (m.to ≡ q) × (takes m.label letter ≡ true)
step_edge moves None q step = (record { label = None; to = q }, step, refl, refl)
step_edge moves (Some k) q step = (record { label = Some step.0; to = q }, step.1, refl, step.2)

labelled_step : (moves : List Move) (label : Option (List Bool)) (to : ℕ) (letter : Option ℕ) → Contains moves (record { label = label; to = to }) → takes label letter ≡ true → StepIn moves letter to
labelled_step moves None to None among taken = among
labelled_step moves None to (Some k) among taken = absurd (false≢true taken)
labelled_step moves (Some set) to None among taken = absurd (false≢true taken)
labelled_step moves (Some set) to (Some k) among taken = (set, among, taken)

pub edge_step : (moves : List Move) (letter : Option ℕ) (m : Move) → Contains moves m → takes m.label letter ≡ true → StepIn moves letter m.to
edge_step moves letter m among taken = labelled_step moves m.label m.to letter among taken

-- ---- lists joined end to end

pub in_flat_map : {X Y : Type 0} (f : X → List Y) (xs : List X) (x : X) (y : Y) → Contains xs x → Contains (f x) y → Contains (flat_map f xs) y
in_flat_map f [] x y among here = absurd (Contains-nil x among)
in_flat_map f (z ∷ xs) x y among here = elim (Contains-cons_cases z xs x among) [
  | inl first ↦ Contains-append_left (f z) (flat_map f xs) y (subst (λ u. Contains (f u) y) (sym first) here)
  | inr later ↦ Contains-append_right (f z) (flat_map f xs) y (in_flat_map f xs x y later here)
]

pub from_flat_map : {X Y : Type 0} (f : X → List Y) (xs : List X) (y : Y) → Contains (flat_map f xs) y → (x : X) × Contains xs x × Contains (f x) y
from_flat_map f [] y among = absurd (Contains-nil y among)
from_flat_map f (z ∷ xs) y among = elim (Contains-append_cases (f z) (flat_map f xs) y among) [
  | inl first ↦ (z, (0, omega arith, refl), first)
  | inr later ↦ let found = from_flat_map f xs y later in (found.0, (suc found.1.0, omega (arith, found.1.1), found.1.2), found.2)
]

-- ---- common letters

has_below : (set : List Bool) (k : ℕ) → has set k ≡ true → k < length set
has_below set k among = elim (cases_lt k (length set)) [ inl below ↦ below | inr past ↦ absurd (false≢true (sym (get_or_past set k false past) ∙ among)) ]

pub has-common : (s t : List Bool) (k : ℕ) → k < length s → has (common s t) k ≡ (has s k && has t k)
has-common s t k below = get_or-map-range_with_len (λ j. has s j && has t j) 0 (length s) k k false below (omega arith)

pub common_both : (s t : List Bool) (k : ℕ) → has (common s t) k ≡ true → (has s k ≡ true) × (has t k ≡ true)
common_both s t k among =
    let below = has_below (common s t) k among in
    and_parts (has s k) (has t k) (sym (has-common s t k (omega (arith, below, length-map-range_with_len (λ j. has s j && has t j) 0 (length s)))) ∙ among)

pub both_common : (s t : List Bool) (k : ℕ) → has s k ≡ true → has t k ≡ true → has (common s t) k ≡ true
both_common s t k left right = has-common s t k (has_below s k left) ∙ and_from (has s k) (has t k) left right

pub some_letter : (set : List Bool) → list_any (λ b. b) set ≡ true → (k : ℕ) × (has set k ≡ true)
some_letter [] any = absurd (false≢true any)
some_letter (b ∷ set) any = elim (or_cases b (list_any (λ b. b) set) any) [
  | inl here ↦ (0, here)
  | inr later ↦ let found = some_letter set later in (suc found.0, found.1)
]

pub any_letter : (set : List Bool) (k : ℕ) → has set k ≡ true → list_any (λ b. b) set ≡ true
any_letter [] k among = absurd (false≢true among)
any_letter (b ∷ set) zero among = or_left b (list_any (λ b. b) set) among
any_letter (b ∷ set) (suc k) among = or_right b (list_any (λ b. b) set) (any_letter set k among)

-- ---- a joint step: one silently, or both by one letter

abbrev pub JointStep : Automaton → Automaton → Pair → Option ℕ → Pair → Type 0
JointStep a b x letter y =
    ((letter ≡ None) × HasStep a x.left None y.left × (x.right ≡ y.right))
    ⊎ (((letter ≡ None) × (x.left ≡ y.left) × HasStep b x.right None y.right)
    ⊎ ((k : ℕ) × (letter ≡ Some k) × HasStep a x.left (Some k) y.left × HasStep b x.right (Some k) y.right))

silent_one_only : (label : Option (List Bool)) (to : Pair) (j : JointMove) → Contains (silent_one label to) j → (label ≡ None) × (j.label ≡ None) × (j.to ≡ to)
silent_one_only None to j among = elim (Contains-cons_cases _ [] j among) [
  | inl same ↦ (refl, ap (λ (i : JointMove). i.label) (sym same), ap (λ (i : JointMove). i.to) (sym same))
  | inr none ↦ absurd (Contains-nil j none)
]
silent_one_only (Some s) to j among = absurd (Contains-nil j among)

labelled_both_only : (l r : Option (List Bool)) (to : Pair) (j : JointMove) → Contains (labelled_both l r to) j
    → (s : List Bool) × (t : List Bool) × (l ≡ Some s) × (r ≡ Some t) × (j.label ≡ Some (common s t)) × (j.to ≡ to) × (list_any (λ b. b) (common s t) ≡ true)
labelled_both_only None r to j among = absurd (Contains-nil j among)
labelled_both_only (Some s) None to j among = absurd (Contains-nil j among)
labelled_both_only (Some s) (Some t) to j among = elim (cases_Bool (list_any (λ b. b) (common s t))) [
  | inl some ↦
      let one : List JointMove = record { label = Some (common s t); to = to } ∷ [] in
      elim (Contains-cons_cases _ [] j (subst (λ b. Contains (if b then one else []) j) some among)) [
        | inl same ↦ (s, t, refl, refl, ap (λ (i : JointMove). i.label) (sym same), ap (λ (i : JointMove). i.to) (sym same), some)
        | inr none ↦ absurd (Contains-nil j none)
      ]
  | inr none ↦
      let one : List JointMove = record { label = Some (common s t); to = to } ∷ [] in
      absurd (Contains-nil j (subst (λ b. Contains (if b then one else []) j) none among))
]

module _ (a b : Automaton) (x : Pair) where
  abbrev lefts : List JointMove
  lefts = left_moves x.right (moves_of a x.left)

  abbrev rights : List JointMove
  rights = right_moves x.left (moves_of b x.right)

  abbrev boths : List JointMove
  boths = flat_map (λ m. moves_with m (moves_of b x.right)) (moves_of a x.left)

  abbrev Silent-left : JointMove → Type 0
  Silent-left j = (j.label ≡ None) × HasStep a x.left None j.to.left × (x.right ≡ j.to.right)

  abbrev Silent-right : JointMove → Type 0
  Silent-right j = (j.label ≡ None) × (x.left ≡ j.to.left) × HasStep b x.right None j.to.right

  abbrev Labelled : JointMove → Type 0
  Labelled j =
      (s : List Bool) × (j.label ≡ Some s) × (list_any (λ c. c) s ≡ true)
      × ((k : ℕ) → has s k ≡ true → HasStep a x.left (Some k) j.to.left × HasStep b x.right (Some k) j.to.right)

  joint_cases : (j : JointMove) → Contains (joint_moves a b x) j → Silent-left j ⊎ (Silent-right j ⊎ Labelled j)
  joint_cases j among = elim (Contains-append_cases (left_moves x.right (moves_of a x.left) ++ right_moves x.left (moves_of b x.right)) (flat_map (λ m. moves_with m (moves_of b x.right)) (moves_of a x.left)) j among) [
    | inl silent ↦ elim (Contains-append_cases (left_moves x.right (moves_of a x.left)) (right_moves x.left (moves_of b x.right)) j silent) [
      | inl left ↦
          let found = from_flat_map (λ m. silent_one m.label (pair_of m.to x.right)) (moves_of a x.left) j left in
          let only = silent_one_only found.0.label (pair_of found.0.to x.right) j found.2 in
          let step = edge_step (moves_of a x.left) None found.0 found.1 (ap (λ l. takes l None) only.0) in
          inl (only.1, subst (λ n. HasStep a x.left None n) (sym (ap (λ (y : Pair). y.left) only.2)) step, sym (ap (λ (y : Pair). y.right) only.2))
      | inr right ↦
          let found = from_flat_map (λ n. silent_one n.label (pair_of x.left n.to)) (moves_of b x.right) j right in
          let only = silent_one_only found.0.label (pair_of x.left found.0.to) j found.2 in
          let step = edge_step (moves_of b x.right) None found.0 found.1 (ap (λ l. takes l None) only.0) in
          inr (inl (only.1, sym (ap (λ (y : Pair). y.left) only.2), subst (λ n. HasStep b x.right None n) (sym (ap (λ (y : Pair). y.right) only.2)) step))
    ]
    | inr labelled ↦
        let first = from_flat_map (λ m. moves_with m (moves_of b x.right)) (moves_of a x.left) j labelled in
        let second = from_flat_map (λ n. labelled_both first.0.label n.label (pair_of first.0.to n.to)) (moves_of b x.right) j first.2 in
        let only = labelled_both_only first.0.label second.0.label (pair_of first.0.to second.0.to) j second.2 in
        inr (inr (
          common only.0 only.1,
          only.4,
          only.6,
          λ k has_k.
              let parts = common_both only.0 only.1 k has_k in (
                subst (λ n. HasStep a x.left (Some k) n) (sym (ap (λ (y : Pair). y.left) only.5)) (edge_step (moves_of a x.left) (Some k) first.0 first.1 (ap (λ l. takes l (Some k)) only.2 ∙ parts.0)),
                subst (λ n. HasStep b x.right (Some k) n) (sym (ap (λ (y : Pair). y.right) only.5)) (edge_step (moves_of b x.right) (Some k) second.0 second.1 (ap (λ l. takes l (Some k)) only.3 ∙ parts.1)),
              ),
        ))
  ]

  pub joint_in : (j : JointMove) (letter : Option ℕ) → Contains (joint_moves a b x) j → takes j.label letter ≡ true → JointStep a b x letter j.to
  joint_in j letter among taken = elim (joint_cases j among) [
    | inl left ↦ inl (silently letter (sym (ap (λ l. takes l letter) left.0) ∙ taken), left.1, left.2)
    | inr others ↦ elim others [
      | inl right ↦ inr (inl (silently letter (sym (ap (λ l. takes l letter) right.0) ∙ taken), right.1, right.2))
      | inr labelled ↦
          let read = by_letter labelled.0 letter (sym (ap (λ l. takes l letter) labelled.1) ∙ taken) in
          let steps = labelled.3 read.0 read.2 in
          inr (inr (read.0, read.1, steps.0, steps.1))
    ]
  ]
    where
      silently : (letter : Option ℕ) → takes None letter ≡ true → letter ≡ None
      silently None taken = refl
      silently (Some k) taken = absurd (false≢true taken)

      by_letter : (set : List Bool) (letter : Option ℕ) → takes (Some set) letter ≡ true → (k : ℕ) × (letter ≡ Some k) × (has set k ≡ true)
      by_letter set None taken = absurd (false≢true taken)
      by_letter set (Some k) taken = (k, refl, taken)

  -- a label has one boolean for each letter
  pub joint_sized : IsAutomaton a → (j : JointMove) → Contains (joint_moves a b x) j → ForSome j.label (λ set. length set ≡ a.letters)
  joint_sized ok j among = elim (Contains-append_cases (lefts ++ rights) boths j among) [
    | inl silent ↦ elim (Contains-append_cases lefts rights j silent) [
      | inl left ↦
          let found = from_flat_map (λ m. silent_one m.label (pair_of m.to x.right)) (moves_of a x.left) j left in
          let none = (silent_one_only found.0.label (pair_of found.0.to x.right) j found.2).1 in
          (λ set is. cc)
      | inr right ↦
          let found = from_flat_map (λ n. silent_one n.label (pair_of x.left n.to)) (moves_of b x.right) j right in
          let none = (silent_one_only found.0.label (pair_of x.left found.0.to) j found.2).1 in
          (λ set is. cc)
    ]
    | inr labelled ↦
        let first = from_flat_map (λ m. moves_with m (moves_of b x.right)) (moves_of a x.left) j labelled in
        let second = from_flat_map (λ n. labelled_both first.0.label n.label (pair_of first.0.to n.to)) (moves_of b x.right) j first.2 in
        let only = labelled_both_only first.0.label second.0.label (pair_of first.0.to second.0.to) j second.2 in
        (λ set is.
        let same : common only.0 only.1 ≡ set = same_Some (common only.0 only.1) set (sym only.4 ∙ is) in
        subst (λ l. length l ≡ a.letters) same
        (length-map-range_with_len (λ k. has only.0 k && has only.1 k) 0 (length only.0)
        ∙ (All-contains (IsMove a.letters (states a)) (moves_of a x.left) first.0 (moves_ok a ok x.left) first.1).sized only.0 only.2))
  ]

  -- each joint edge can be taken
  pub joint_some : (j : JointMove) → Contains (joint_moves a b x) j → (letter : Option ℕ) × JointStep a b x letter j.to
  joint_some j among = elim (joint_cases j among) [
    | inl left ↦ (None, inl (refl, left.1, left.2))
    | inr others ↦ elim others [
      | inl right ↦ (None, inr (inl (refl, right.1, right.2)))
      | inr labelled ↦
          let some = some_letter labelled.0 labelled.2 in
          let steps = labelled.3 some.0 some.1 in
          (Some some.0, inr (inr (some.0, refl, steps.0, steps.1)))
    ]
  ]

  pub joint_out : (letter : Option ℕ) (y : Pair) → JointStep a b x letter y → (j : JointMove) × Contains (joint_moves a b x) j × (j.to ≡ y) × (takes j.label letter ≡ true)
  joint_out letter y step = elim step [
    | inl left ↦
        let edge = step_edge (moves_of a x.left) None y.left left.1 in
        let j : JointMove = record { label = None; to = pair_of edge.0.to x.right } in (
          j,
          Contains-append_left (lefts ++ rights) boths j (Contains-append_left lefts rights j
              (in_flat_map (λ m. silent_one m.label (pair_of m.to x.right)) (moves_of a x.left) edge.0 j edge.1 (is_silent edge.0.label (pair_of edge.0.to x.right) edge.3))),
          (λ i. pair_of (edge.2 i) (left.2 i)),
          ap (λ l. takes None l) left.0,
        )
    | inr others ↦ elim others [
      | inl right ↦
          let edge = step_edge (moves_of b x.right) None y.right right.2 in
          let j : JointMove = record { label = None; to = pair_of x.left edge.0.to } in (
            j,
            Contains-append_left (lefts ++ rights) boths j (Contains-append_right lefts rights j
                (in_flat_map (λ n. silent_one n.label (pair_of x.left n.to)) (moves_of b x.right) edge.0 j edge.1 (is_silent edge.0.label (pair_of x.left edge.0.to) edge.3))),
            (λ i. pair_of (right.1 i) (edge.2 i)),
            ap (λ l. takes None l) right.0,
          )
      | inr labelled ↦
          let k = labelled.0 in
          let first = step_edge (moves_of a x.left) (Some k) y.left labelled.2 in
          let second = step_edge (moves_of b x.right) (Some k) y.right labelled.3 in
          let found = is_labelled first.0.label second.0.label (pair_of first.0.to second.0.to) k first.3 second.3 in (
            found.0,
            Contains-append_right (lefts ++ rights) boths found.0
                (in_flat_map (λ m. moves_with m (moves_of b x.right)) (moves_of a x.left) first.0 found.0 first.1
                (in_flat_map (λ n. labelled_both first.0.label n.label (pair_of first.0.to n.to)) (moves_of b x.right) second.0 found.0 second.1 found.1)),
            found.2 ∙ (λ i. pair_of (first.2 i) (second.2 i)),
            ap (λ l. takes found.0.label l) labelled.1 ∙ found.3,
          )
    ]
  ]
    where
      is_silent : (label : Option (List Bool)) (to : Pair) → takes label None ≡ true → Contains (silent_one label to) (record { label = None; to = to })
      is_silent None to taken = (0, omega arith, refl)
      is_silent (Some s) to taken = absurd (false≢true taken)

      is_labelled : (l r : Option (List Bool)) (to : Pair) (k : ℕ) → takes l (Some k) ≡ true → takes r (Some k) ≡ true
          → (j : JointMove) × Contains (labelled_both l r to) j × (j.to ≡ to) × (takes j.label (Some k) ≡ true)
      is_labelled None r to k left right = absurd (false≢true left)
      is_labelled (Some s) None to k left right = absurd (false≢true right)
      is_labelled (Some s) (Some t) to k left right =
          let j : JointMove = record { label = Some (common s t); to = to } in
          let here = both_common s t k left right in
          (j, subst (λ c. Contains (if c then j ∷ [] else []) j) (sym (any_letter (common s t) k here)) (0, omega arith, refl), refl, here)

-- ---- words that lead both automata

module _ (a b : Automaton) where
  pub both_start : ReachBoth a b (pair_of a.start b.start) []
  both_start = (reach_start a, reach_start b)

  pub both_step : (x y : Pair) (letter : Option ℕ) (word : List ℕ) → ReachBoth a b x word → JointStep a b x letter y → ReachBoth a b y (word ++ option_to_list letter)
  both_step x y letter word reach step = elim step [
    | inl left ↦
        subst (λ o. ReachBoth a b y (word ++ option_to_list o)) (sym left.0)
        (subst (λ w. ReachBoth a b y w) (sym (append-nil word)) (reach_silent a x.left y.left word reach.0 left.1, subst (λ n. Reach b n word) left.2 reach.1))
    | inr others ↦ elim others [
      | inl right ↦
          subst (λ o. ReachBoth a b y (word ++ option_to_list o)) (sym right.0)
          (subst (λ w. ReachBoth a b y w) (sym (append-nil word)) (subst (λ n. Reach a n word) right.1 reach.0, reach_silent b x.right y.right word reach.1 right.2))
      | inr labelled ↦
          subst (λ o. ReachBoth a b y (word ++ option_to_list o)) (sym labelled.1)
          (reach_step a x.left y.left (Some labelled.0) word reach.0 labelled.2, reach_step b x.right y.right (Some labelled.0) word reach.1 labelled.3)
    ]
  ]

  -- what holds at the two starts and is kept by joint steps holds wherever a word leads both
  module _ (C : Pair → List ℕ → Type 0) (starts : C (pair_of a.start b.start) [])
      (kept : (x y : Pair) (letter : Option ℕ) (word : List ℕ) → C x word → JointStep a b x letter y → C y (word ++ option_to_list letter)) where
    left_silent : (p r q : ℕ) (w : List ℕ) → C (pair_of p q) w → HasStep a p None r → C (pair_of r q) w
    left_silent p r q w here step = subst (λ v. C (pair_of r q) v) (append-nil w) (kept (pair_of p q) (pair_of r q) None w here (inl (refl, step, refl)))

    right_silent : (p q s : ℕ) (w : List ℕ) → C (pair_of p q) w → HasStep b q None s → C (pair_of p s) w
    right_silent p q s w here step = subst (λ v. C (pair_of p s) v) (append-nil w) (kept (pair_of p q) (pair_of p s) None w here (inr (inl (refl, refl, step))))

    at_start : (q : ℕ) → Reach b q [] → C (pair_of a.start q) []
    at_start q reach =
        reach_each b (λ s v. v ≡ [] → C (pair_of a.start s) v) (λ s t letter v reads there step nil. one s t letter v there step nil) (λ nil. starts) q [] reach refl
      where
        one : (s t : ℕ) (letter : Option ℕ) (v : List ℕ) → (v ≡ [] → C (pair_of a.start s) v) → HasStep b s letter t → v ++ option_to_list letter ≡ [] → C (pair_of a.start t) (v ++ option_to_list letter)
        one s t None v there step nil = subst (λ w. C (pair_of a.start t) w) (sym (append-nil v)) (right_silent a.start s t v (there (sym (append-nil v) ∙ nil)) step)
        one s t (Some k) v there step nil = absurd (omega (arith, ap length nil, length-append v (k ∷ [])))

    after_letter : (p r k : ℕ) (u : List ℕ) → ((q : ℕ) → Reach b q u → C (pair_of p q) u) → HasStep a p (Some k) r → (q : ℕ) → Reach b q (u ++ k ∷ []) → C (pair_of r q) (u ++ k ∷ [])
    after_letter p r k u before first q reach =
        reach_each b (λ s v. v ≡ u ++ k ∷ [] → C (pair_of r s) v) (λ s t letter v reads there step same. one s t letter v reads there step same)
        (λ same. absurd (omega (arith, ap length same, length-append u (k ∷ [])))) q (u ++ k ∷ []) reach refl
      where
        one : (s t : ℕ) (letter : Option ℕ) (v : List ℕ) → Reach b s v → (v ≡ u ++ k ∷ [] → C (pair_of r s) v) → HasStep b s letter t → v ++ option_to_list letter ≡ u ++ k ∷ []
            → C (pair_of r t) (v ++ option_to_list letter)
        one s t None v reads there step same = subst (λ w. C (pair_of r t) w) (sym (append-nil v)) (right_silent r s t v (there (sym (append-nil v) ∙ same)) step)
        one s t (Some j) v reads there step same =
            let parts = same_from_push v u j k same in
            subst (λ w. C (pair_of r t) w) (sym same)
            (kept (pair_of p s) (pair_of r t) (Some k) u (before s (subst (λ w. Reach b s w) parts.0 reads)) (inr (inr (k, refl, first, subst (λ i. HasStep b s (Some i) t) parts.1 step))))

    pub both_each : (x : Pair) (word : List ℕ) → ReachBoth a b x word → C x word
    both_each x word reach = reach_each a (λ p w. (q : ℕ) → Reach b q w → C (pair_of p q) w) (λ p r letter w reads there step. one p r letter w there step) at_start x.left word reach.0 x.right reach.1
      where
        one : (p r : ℕ) (letter : Option ℕ) (w : List ℕ) → ((q : ℕ) → Reach b q w → C (pair_of p q) w) → HasStep a p letter r → (q : ℕ) → Reach b q (w ++ option_to_list letter)
            → C (pair_of r q) (w ++ option_to_list letter)
        one p r None w there step q reach =
            subst (λ v. C (pair_of r q) v) (sym (append-nil w)) (left_silent p r q w (there q (subst (λ v. Reach b q v) (append-nil w) reach)) step)
        one p r (Some k) w there step q reach = after_letter p r k w there step q reach

-- ---- what was met

pub meet_letters : (s t u : List Bool) → length u ≡ length s → ((k : ℕ) → has u k ≡ (has s k && has t k)) → u ≡ common s t
meet_letters s t u len each =
    ext_get_or false u (common s t) (len ∙ sym (length-map-range_with_len (λ j. has s j && has t j) 0 (length s))) (λ k below. each k ∙ sym (has-common s t k (omega (arith, below, len))))

pub labelled_met : (s t u : List Bool) (to : Pair) → u ≡ common s t → list_any (λ c. c) u ≡ true → labelled_both (Some s) (Some t) to ≡ record { label = Some u; to = to } ∷ []
labelled_met s t u to same some =
    let any : list_any (λ c. c) (common s t) ≡ true = ap (λ l. list_any (λ c. c) l) (sym same) ∙ some in
    let one : List JointMove = record { label = Some (common s t); to = to } ∷ [] in
    ap (λ c. if c then one else []) any ∙ ap (λ l. record { label = Some l; to = to } ∷ []) (sym same)

pub labelled_apart : (s t u : List Bool) (to : Pair) → u ≡ common s t → list_any (λ c. c) u ≡ false → labelled_both (Some s) (Some t) to ≡ []
labelled_apart s t u to same none =
    let any : list_any (λ c. c) (common s t) ≡ false = ap (λ l. list_any (λ c. c) l) (sym same) ∙ none in
    let one : List JointMove = record { label = Some (common s t); to = to } ∷ [] in
    ap (λ c. if c then one else []) any

pub none_in : (set : List Bool) → ((k : ℕ) → has set k ≡ false) → list_any (λ c. c) set ≡ false
none_in set none = false_from_ne_true (list_any (λ c. c) set) (λ any. let found = some_letter set any in false≢true (sym (none found.0) ∙ found.1))

pub some_in : (set : List Bool) → (((k : ℕ) → has set k ≡ false) → ⊥) → list_any (λ c. c) set ≡ true
some_in set some =
    true_from_ne_false (list_any (λ c. c) set) (λ none. some (λ k. false_from_ne_true (has set k) (λ here. false≢true (sym none ∙ any_letter set k here))))

-- ---- whether two sets have a letter in common

has_common_each : (s t : List Bool) (k : ℕ) → has (common s t) k ≡ (has s k && has t k)
has_common_each s t k = elim (cases_lt k (length s)) [
  | inl below ↦ has-common s t k below
  | inr past ↦
      get_or_past (common s t) k false (omega (arith, past, length-map-range_with_len (λ j. has s j && has t j) 0 (length s)))
      ∙ sym (ap (λ v. v && has t k) (get_or_past s k false past))
]

pub none_common : (s t : List Bool) → ((k : ℕ) → (has s k && has t k) ≡ false) → list_any (λ c. c) (common s t) ≡ false
none_common s t none = none_in (common s t) (λ k. has_common_each s t k ∙ none k)

pub some_common : (s t : List Bool) → (((k : ℕ) → (has s k && has t k) ≡ false) → ⊥) → list_any (λ c. c) (common s t) ≡ true
some_common s t some = some_in (common s t) (λ none. some (λ k. sym (has_common_each s t k) ∙ none k))
