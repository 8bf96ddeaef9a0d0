-- Edges that are sorted out, those by one letter alone from the others.
use Rattle.std.proofs.Common.{◌≡◌, ℕ, ◌⊎◌, ◌↔◌, Bool, true, false, List, [], ◌∷◌, ◌++◌, get_or, Option, None, Some, refl, sym, ◌∙◌, subst, inl, inr}
use Rattle.std.specs.List.{All, Contains, flat_map}
use Rattle.std.specs.List.Sorted.{IsPermutation}
use Rattle.std.proofs.lemmas.Bool.{cases_Bool}
use Rattle.std.proofs.lemmas.List.Elements.{All-contains, All-contains_itself, Contains-append_cases, Contains-append_left, Contains-append_right, Contains-get_or, Contains-push, Contains-push_cases}
use Rattle.std.proofs.lemmas.List.Sorted.{All-permutation, Contains-permutation}
use Rattle.rela_labels.specs.Letters.{has}
use Rattle.rela_nfa.specs.Automaton.{Automaton, Move, moves_of}
use Rattle.rela_nfa.specs.Runs.{StepIn}
use Rattle.rela_subset.specs.Deterministic.{takes}
use Rattle.rela_subset.specs.Expansion.{AreTakenAlike}
use Rattle.rela_subset.specs.Outgoing.{AreSortedOut, HasEnd, IsAlone, IsSingle, moves_from}
use Rattle.rela_subset.specs.Sets.{StepFrom}
use Rattle.rela_subset.specs.declared.letter_edge.LetterEdge.{LetterEdge}
use Rattle.rela_subset.proofs.Targets.{Contains-head, Contains-nil, Contains-tail, Contains-cons_cases}

pub all_among : {X : Type 0} (P : X → Type 0) (xs : List X) → ((x : X) → Contains xs x → P x) → All P xs
all_among P xs each = λ i d below. each (get_or xs i d) (Contains-get_or xs i d below)

pub contains_flat : {X Y : Type 0} (f : X → List Y) (xs : List X) (y : Y) → Contains (flat_map f xs) y ↔ ((x : X) × Contains xs x × Contains (f x) y)
contains_flat f [] y = (λ c. absurd (Contains-nil y c), λ (x, c, at). absurd (Contains-nil x c))
contains_flat f (x ∷ xs) y = (
  λ c. elim (Contains-append_cases (f x) (flat_map f xs) y c) [
    | inl here ↦ (x, Contains-head x xs, here)
    | inr later ↦ let (z, among, at) = (contains_flat f xs y).0 later in (z, Contains-tail x xs z among, at)
  ],
  λ (z, among, at). elim (Contains-cons_cases x xs z among) [
    | inl same ↦ Contains-append_left (f x) (flat_map f xs) y (subst (λ v. Contains (f v) y) (sym same) at)
    | inr later ↦ Contains-append_right (f x) (flat_map f xs) y ((contains_flat f xs y).1 (z, later, at))
  ],
)

pub all_flat : {X Y : Type 0} (P : Y → Type 0) (f : X → List Y) (xs : List X) → All P (flat_map f xs) ↔ All (λ x. All P (f x)) xs
all_flat P f xs = (
  λ all. all_among (λ x. All P (f x)) xs (λ x c. all_among P (f x) (λ y d. All-contains P (flat_map f xs) y all ((contains_flat f xs y).1 (x, c, d)))),
  λ all. all_among P (flat_map f xs) (λ y c. let (x, among, at) = (contains_flat f xs y).0 c in All-contains P (f x) y (All-contains (λ v. All P (f v)) xs x all among) at),
)

pub step_flat : (a : Automaton) (set : List ℕ) (k q : ℕ) → StepIn (moves_from a set) (Some k) q ↔ StepFrom a set k q
step_flat a set k q = (
  λ (label, among, taken). let (p, in_set, at) = (contains_flat (moves_of a) set _).0 among in (p, in_set, (label, at, taken)),
  λ (p, in_set, (label, at, taken)). (label, (contains_flat (moves_of a) set _).1 (p, in_set, at), taken),
)

pub sorted_none : AreSortedOut [] [] []
sorted_none = record {
  each = λ move c. absurd (Contains-nil move c);
  single = λ letter q c. absurd (Contains-nil _ c);
  other = λ move c. absurd (Contains-nil move c);
}

pub sorted_permuted : (moves : List Move) (singles singles' : List LetterEdge) (others : List Move) → IsPermutation singles singles'
    → AreSortedOut moves singles others → AreSortedOut moves singles' others
sorted_permuted moves singles singles' others moved sorted = record {
  each = λ move c. elim (sorted.each move c) [
    | inl silent ↦ inl silent
    | inr labelled ↦ elim labelled [
      | inl (letter, set, is, alone, here) ↦ inr (inl (letter, set, is, alone, Contains-permutation singles singles' _ moved here))
      | inr other ↦ inr (inr other)
    ]
  ];
  single = λ letter q here.
      sorted.single letter q (All-contains (Contains singles) singles' _ (All-permutation (Contains singles) singles singles' moved (All-contains_itself singles)) here);
  other = sorted.other;
}

module _ (moves : List Move) (singles : List LetterEdge) (others : List Move) (sorted : AreSortedOut moves singles others) where
  module _ (move : Move) where
    more : (m : Move) → Contains moves m → Contains (moves ++ move ∷ []) m
    more m c = Contains-append_left moves (move ∷ []) m c

    pub sorted_silent : move.label ≡ None → AreSortedOut (moves ++ move ∷ []) singles others
    sorted_silent silent = record {
      each = λ m c. elim (Contains-push_cases moves move m c) [ inl before ↦ sorted.each m before | inr here ↦ inl (subst (λ n. n.label ≡ None) here silent) ];
      single = λ letter q here. let (set, alone, among) = sorted.single letter q here in (set, alone, more _ among);
      other = λ m c. more m (sorted.other m c);
    }

    pub sorted_single : (set : List Bool) (letter : ℕ) → move.label ≡ Some set → IsAlone set letter
        → AreSortedOut (moves ++ move ∷ []) (singles ++ record { letter = letter; to = move.to } ∷ []) others
    sorted_single set letter is alone =
        let edge : LetterEdge = record { letter = letter; to = move.to } in
        let own : IsSingle (singles ++ edge ∷ []) move = (letter, set, is, alone, Contains-push singles edge) in
        let holds : LetterEdge → Type 0 = λ e. (label : List Bool) × IsAlone label e.letter × Contains (moves ++ move ∷ []) (record { label = Some label; to = e.to }) in
        record {
          each = λ m c. elim (Contains-push_cases moves move m c) [
            | inl before ↦ elim (sorted.each m before) [
              | inl silent ↦ inl silent
              | inr labelled ↦ elim labelled [
                | inl (l, s, s_is, s_alone, there) ↦ inr (inl (l, s, s_is, s_alone, Contains-append_left singles (edge ∷ []) _ there))
                | inr other ↦ inr (inr other)
              ]
            ]
            | inr here ↦ inr (inl (subst (IsSingle (singles ++ edge ∷ [])) here own))
          ];
          single = λ l q c. elim (Contains-push_cases singles edge (record { letter = l; to = q }) c) [
            | inl before ↦ let (s, s_alone, among) = sorted.single l q before in (s, s_alone, more _ among)
            | inr here ↦
                subst holds here
                (set, alone, subst (λ label. Contains (moves ++ move ∷ []) (record { label = label; to = move.to })) is (Contains-push moves move))
          ];
          other = λ m c. more m (sorted.other m c);
        }

    pub sorted_other : AreSortedOut (moves ++ move ∷ []) singles (others ++ move ∷ [])
    sorted_other = record {
      each = λ m c. elim (Contains-push_cases moves move m c) [
        | inl before ↦ elim (sorted.each m before) [
          | inl silent ↦ inl silent
          | inr labelled ↦ elim labelled [ inl single ↦ inr (inl single) | inr other ↦ inr (inr (Contains-append_left others (move ∷ []) m other)) ]
        ]
        | inr here ↦ inr (inr (subst (Contains (others ++ move ∷ [])) here (Contains-push others move)))
      ];
      single = λ letter q here. let (set, alone, among) = sorted.single letter q here in (set, alone, more _ among);
      other = λ m c. elim (Contains-push_cases others move m c) [ inl before ↦ more m (sorted.other m before) | inr here ↦ subst (Contains (moves ++ move ∷ [])) here (Contains-push moves move) ];
    }

  -- where the edges lead by a letter
  pub step_sorted : (k q : ℕ) → StepIn moves (Some k) q ↔ (HasEnd singles k q ⊎ StepIn others (Some k) q)
  step_sorted k q = (
    λ (set, among, taken). elim (sorted.each (record { label = Some set; to = q }) among) [
      | inl silent ↦ absurd (no_label set silent)
      | inr labelled ↦ elim labelled [
        | inl (letter, s, is, alone, here) ↦ inl (subst (λ l. HasEnd singles l q) (sym ((alone k).0 (subst (λ label. takes k (record { label = label; to = q }) ≡ true) is taken))) here)
        | inr other ↦ inr (set, other, taken)
      ]
    ],
    λ either. elim either [
      | inl here ↦ let (set, alone, among) = sorted.single k q here in (set, among, (alone k).1 refl)
      | inr (set, other, taken) ↦ (set, sorted.other _ other, taken)
    ],
  )
    where
      no_label : (set : List Bool) → Some set ≡ None → ⊥
      no_label set e = cc

  -- a letter of an edge by it alone is like no other
  pub single_alike : (j k q : ℕ) → HasEnd singles j q → AreTakenAlike moves j k → k ≡ j
  single_alike j k q here alike =
      let (set, alone, among) = sorted.single j q here in
      (alone k).0 (All-contains (λ move. takes k move ≡ takes j move) moves _ alike among ∙ (alone j).1 refl)

  not_taken : (set : List Bool) (letter n : ℕ) → IsAlone set letter → (n ≡ letter → ⊥) → has set n ≡ false
  not_taken set letter n alone apart = elim (cases_Bool (has set n)) [ inl in_set ↦ absurd (apart ((alone n).0 in_set)) | inr out ↦ out ]

  -- letters that no such edge has are alike by the other edges
  pub others_alike : (j k : ℕ) → ((q : ℕ) → HasEnd singles j q → ⊥)
      → AreTakenAlike moves j k ↔ (AreTakenAlike others j k × ((q : ℕ) → HasEnd singles k q → ⊥))
  others_alike j k none = (
    λ all. (
      all_among (λ move. takes k move ≡ takes j move) others (λ move c. All-contains (λ m. takes k m ≡ takes j m) moves move all (sorted.other move c)),
      λ q here. let (set, alone, among) = sorted.single k q here in
          let taken : has set j ≡ true = sym (All-contains (λ m. takes k m ≡ takes j m) moves _ all among) ∙ (alone k).1 refl in
          none q (subst (λ l. HasEnd singles l q) (sym ((alone j).0 taken)) here),
    ),
    λ (all, apart). all_among (λ move. takes k move ≡ takes j move) moves (λ move c. elim (sorted.each move c) [
      | inl silent ↦ by_label move.to move.label None silent refl
      | inr labelled ↦ elim labelled [
        | inl (letter, set, is, alone, here) ↦
            by_label move.to move.label (Some set) is
            (not_taken set letter k alone (λ same. apart move.to (subst (λ l. HasEnd singles l move.to) (sym same) here))
            ∙ sym (not_taken set letter j alone (λ same. none move.to (subst (λ l. HasEnd singles l move.to) (sym same) here))))
        | inr other ↦ All-contains (λ m. takes k m ≡ takes j m) others move all other
      ]
    ]),
  )
    where
      by_label : (to : ℕ) (label is : Option (List Bool)) → label ≡ is → takes k (record { label = is; to = to }) ≡ takes j (record { label = is; to = to })
          → takes k (record { label = label; to = to }) ≡ takes j (record { label = label; to = to })
      by_label to label is same alike = subst (λ l. takes k (record { label = l; to = to }) ≡ takes j (record { label = l; to = to })) (sym same) alike
