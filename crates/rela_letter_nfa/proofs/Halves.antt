-- The steps of two automata in the one that joins them.
use Rattle.std.proofs.Common.{◌≡◌, ℕ, ◌+◌, ◌-◌, ◌<◌, ◌⊎◌, ◌↔◌, false, List, [], ◌∷◌, ◌++◌, get_or, map, Option, None, Some, refl, sym, ap, ◌∙◌, subst, inl, inr, arith}
use Rattle.std.specs.List.{Contains}
use Rattle.std.specs.Option.{option_to_list}
use Rattle.std.proofs.lemmas.Bool.{cases_Bool, cases_lt, false≢true}
use Rattle.std.proofs.lemmas.List.{get_or_past}
use Rattle.rela_letter_nfa.specs.LetterAutomaton.{LetterAutomaton, IsFinal, edges_of, silents_of, states}
use Rattle.rela_letter_nfa.specs.Pair.{ArePaired, HasFinalFrom, Pair, edge_behind, joined, starts_of}
use Rattle.rela_letter_nfa.specs.Runs.{Accepts, Step, HasStep, Follow, Reach, spelled}
use Rattle.rela_letter_nfa.specs.Sets.{Leads, LeadsFrom, Lists}
use Rattle.rela_letter_nfa.specs.declared.edge.LetterEdge.{LetterEdge}
use Rattle.rela_letter_nfa.proofs.Joined.{edges_first, edges_second, joined_states, silents_first, silents_second}
use Rattle.rela_letter_nfa.proofs.Members.{Contains-cons_cases, Contains-head, Contains-nil, Contains-tail}
use Rattle.rela_letter_nfa.proofs.Within.{any_step_within}

in_map : {X Y : Type 0} (f : X → Y) (xs : List X) (y : Y) → Contains (map f xs) y → (x : X) × Contains xs x × (f x ≡ y)
in_map f [] y c = absurd (Contains-nil y c)
in_map f (x ∷ xs) y c = elim (Contains-cons_cases (f x) (map f xs) y c) [
  | inl here ↦ (x, Contains-head x xs, here)
  | inr later ↦ let (z, among, at) = in_map f xs y later in (z, Contains-tail x xs z among, at)
]

to_map : {X Y : Type 0} (f : X → Y) (xs : List X) (x : X) → Contains xs x → Contains (map f xs) (f x)
to_map f [] x c = absurd (Contains-nil x c)
to_map f (y ∷ xs) x c = elim (Contains-cons_cases y xs x c) [
  | inl here ↦ subst (λ z. Contains (map f (y ∷ xs)) (f z)) here (Contains-head (f y) (map f xs))
  | inr later ↦ Contains-tail (f y) (map f xs) (f x) (to_map f xs x later)
]

-- a final state is a state
final_within : (a : LetterAutomaton) (q : ℕ) → IsFinal a q → q < states a
final_within a q final = elim (cases_lt q (states a)) [
  | inl below ↦ below
  | inr past ↦ absurd (false≢true (sym (get_or_past a.finals q false past) ∙ final))
]

zero_plus : (q : ℕ) → 0 + q ≡ q
zero_plus q = omega arith

module _ (pair : Pair) (are : ArePaired pair) where
  abbrev n : ℕ
  n = states pair.first

  first_step : (p : ℕ) (letter : Option ℕ) (q : ℕ) → p < n → HasStep (joined pair) p letter q ↔ HasStep pair.first p letter q
  first_step p None q below =
      let same = silents_first pair are p below in (subst (λ (l : List ℕ). Contains l q) same, subst (λ (l : List ℕ). Contains l q) (sym same))
  first_step p (Some k) q below =
      let same = edges_first pair are p below in
      let e : LetterEdge = record { letter = k; to = q } in
      (subst (λ (l : List LetterEdge). Contains l e) same, subst (λ (l : List LetterEdge). Contains l e) (sym same))

  -- where p is a state of the second
  module _ (p : ℕ) (below : p < states pair.second) where
    behind_is : n + p - n ≡ p
    behind_is = omega arith

    in_joined : n + p < states (joined pair)
    in_joined = omega (arith, below, joined_states pair are)

    silents_are : silents_of (joined pair) (n + p) ≡ map (λ q. n + q) (silents_of pair.second p)
    silents_are = silents_second pair are (n + p) (omega arith) in_joined ∙ ap (λ m. map (λ q. n + q) (silents_of pair.second m)) behind_is

    edges_are : edges_of (joined pair) (n + p) ≡ map (edge_behind n) (edges_of pair.second p)
    edges_are = edges_second pair are (n + p) (omega arith) in_joined ∙ ap (λ m. map (edge_behind n) (edges_of pair.second m)) behind_is

    second_step : (letter : Option ℕ) (r : ℕ) → HasStep (joined pair) (n + p) letter r → (q : ℕ) × (n + q ≡ r) × HasStep pair.second p letter q
    second_step None r step = let (q, among, at) = in_map (λ q. n + q) (silents_of pair.second p) r (subst (λ (l : List ℕ). Contains l r) silents_are step) in (q, at, among)
    second_step (Some k) r step =
        let (e, among, at) = in_map (edge_behind n) (edges_of pair.second p) _ (subst (λ (l : List LetterEdge). Contains l (record { letter = k; to = r })) edges_are step) in
        let letter : e.letter ≡ k = ap (λ (x : LetterEdge). x.letter) at in (
          e.to,
          ap (λ (x : LetterEdge). x.to) at,
          subst (λ (j : ℕ). Contains (edges_of pair.second p) (record { letter = j; to = e.to })) letter among,
        )

    from_second : (letter : Option ℕ) (q : ℕ) → HasStep pair.second p letter q → HasStep (joined pair) (n + p) letter (n + q)
    from_second None q step = subst (λ (l : List ℕ). Contains l (n + q)) (sym silents_are) (to_map (λ m. n + m) (silents_of pair.second p) q step)
    from_second (Some k) q step =
        subst (λ (l : List LetterEdge). Contains l (record { letter = k; to = n + q })) (sym edges_are) (to_map (edge_behind n) (edges_of pair.second p) (record { letter = k; to = q }) step)

  follow_first : (steps : List Step) (p q : ℕ) → p < n → Follow (joined pair) p steps q → Follow pair.first p steps q × (q < n)
  follow_first [] p q below here = (here, subst (λ m. m < n) here below)
  follow_first (step ∷ rest) p q below follows =
      let taken = (first_step p step.letter step.to below).0 follows.0 in
      let (later, within) = follow_first rest step.to q (any_step_within pair.first are.first p step.letter step.to taken) follows.1 in
      ((taken, later), within)

  from_first : (steps : List Step) (p q : ℕ) → p < n → Follow pair.first p steps q → Follow (joined pair) p steps q
  from_first [] p q below here = here
  from_first (step ∷ rest) p q below follows = (
    (first_step p step.letter step.to below).1 follows.0,
    from_first rest step.to q (any_step_within pair.first are.first p step.letter step.to follows.0) follows.1,
  )

  follow_second : (steps : List Step) (p r : ℕ) → p < states pair.second → Follow (joined pair) (n + p) steps r → (q : ℕ) × (n + q ≡ r) × Leads pair.second p (spelled steps) q
  follow_second [] p r below here = (p, here, ([], refl, refl))
  follow_second (step ∷ rest) p r below follows =
      let (m, at, taken) = second_step p below step.letter step.to follows.0 in
      let (q, last, (steps, leads, spells)) =
      follow_second rest m r (any_step_within pair.second are.second p step.letter m taken) (subst (λ x. Follow (joined pair) x rest r) (sym at) follows.1) in
      (q, last, (record { letter = step.letter; to = m } ∷ steps, (taken, leads), ap (λ w. option_to_list step.letter ++ w) spells))

  lead_second : (steps : List Step) (p q : ℕ) → p < states pair.second → Follow pair.second p steps q → Leads (joined pair) (n + p) (spelled steps) (n + q)
  lead_second [] p q below here = ([], ap (λ m. n + m) here, refl)
  lead_second (step ∷ rest) p q below follows =
      let (steps, leads, spells) = lead_second rest step.to q (any_step_within pair.second are.second p step.letter step.to follows.0) follows.1 in
      (record { letter = step.letter; to = n + step.to } ∷ steps, (from_second p below step.letter step.to follows.0, leads), ap (λ w. option_to_list step.letter ++ w) spells)

  -- which start a run of both begins from
  pub which : (word : List ℕ) (r : ℕ) → LeadsFrom (joined pair) (starts_of pair) word r
      → (Reach pair.first r word × (r < n)) ⊎ ((q : ℕ) × (n + q ≡ r) × Reach pair.second q word)
  which word r (p, start, (steps, follows, spells)) = elim (Contains-cons_cases pair.first.start ((n + pair.second.start) ∷ []) p start) [
    | inl here ↦
        let (first, within) = follow_first steps pair.first.start r are.first.starts (subst (λ m. Follow (joined pair) m steps r) (sym here) follows) in
        inl ((steps, first, spells), within)
    | inr later ↦ elim (Contains-cons_cases (n + pair.second.start) [] p later) [
      | inl here ↦
          let (q, at, (steps', leads, same)) = follow_second steps pair.second.start r are.second.starts (subst (λ m. Follow (joined pair) m steps r) (sym here) follows) in
          inr (q, at, (steps', leads, same ∙ spells))
      | inr none ↦ absurd (Contains-nil p none)
    ]
  ]

  pub first_reached : (q : ℕ) (word : List ℕ) → q < states pair.first → LeadsFrom (joined pair) (starts_of pair) word q ↔ Reach pair.first q word
  first_reached q word below = (
    λ leads. elim (which word q leads) [
      | inl (reach, within) ↦ reach
      | inr (m, at, reach) ↦ absurd (omega (arith, at, below))
    ],
    λ (steps, follows, spells). (
      pair.first.start,
      Contains-head pair.first.start ((n + pair.second.start) ∷ []),
      (steps, from_first steps pair.first.start q are.first.starts follows, spells),
    ),
  )

  pub second_reached : (q : ℕ) (word : List ℕ) → LeadsFrom (joined pair) (starts_of pair) word (states pair.first + q) ↔ Reach pair.second q word
  second_reached q word = (
    λ leads. elim (which word (n + q) leads) [
      | inl (reach, within) ↦ absurd (omega (arith, within))
      | inr (m, at, reach) ↦ let same : m ≡ q = omega (arith, at) in subst (λ x. Reach pair.second x word) same reach
    ],
    λ (steps, follows, spells).
        let (steps', leads, same) = lead_second steps pair.second.start q are.second.starts follows in (
          n + pair.second.start,
          Contains-tail pair.first.start ((n + pair.second.start) ∷ []) (n + pair.second.start) (Contains-head (n + pair.second.start) []),
          (steps', leads, same ∙ spells),
        ),
  )

  module _ (word set : List ℕ) (is : Lists (LeadsFrom (joined pair) (starts_of pair) word) set) where
    pub first_accepts : HasFinalFrom pair.first 0 set ↔ Accepts pair.first word
    first_accepts = (
      λ (q, among, final). (q, (first_reached q word (final_within pair.first q final)).0 ((is.members q).0 (subst (Contains set) (zero_plus q) among)), final),
      λ (q, reach, final). (q, subst (Contains set) (sym (zero_plus q)) ((is.members q).1 ((first_reached q word (final_within pair.first q final)).1 reach)), final),
    )

    pub second_accepts : HasFinalFrom pair.second (states pair.first) set ↔ Accepts pair.second word
    second_accepts = (
      λ (q, among, final). (q, (second_reached q word).0 ((is.members (n + q)).0 among), final),
      λ (q, reach, final). (q, (is.members (n + q)).1 ((second_reached q word).1 reach), final),
    )

-- a claim on the final states of a set is decided
final_behind_or_not : (a : LetterAutomaton) (before m : ℕ) → ((q : ℕ) × (m ≡ before + q) × IsFinal a q) ⊎ ¬ ((q : ℕ) × (m ≡ before + q) × IsFinal a q)
final_behind_or_not a before m = elim (cases_lt m before) [
  | inl below ↦ inr (λ (q, at, final). omega (arith, below, at))
  | inr above ↦ elim (cases_Bool (get_or a.finals (m - before) false)) [
    | inl final ↦ inl (m - before, omega (arith, above), final)
    | inr other ↦ inr (λ (q, at, final).
        let same : m - before ≡ q = omega (arith, at) in false≢true (sym other ∙ ap (λ p. get_or a.finals p false) same ∙ final))
  ]
]

pub final_or_not : (a : LetterAutomaton) (before : ℕ) (set : List ℕ) → HasFinalFrom a before set ⊎ ¬ HasFinalFrom a before set
final_or_not a before [] = inr (λ (q, among, final). Contains-nil (before + q) among)
final_or_not a before (m ∷ set) = elim (final_behind_or_not a before m) [
  | inl here ↦ inl (here.0, subst (Contains (m ∷ set)) here.1 (Contains-head m set), here.2)
  | inr not_here ↦ elim (final_or_not a before set) [
    | inl later ↦ inl (later.0, Contains-tail m set (before + later.0) later.1, later.2)
    | inr not_later ↦ inr (λ (q, among, final). elim (Contains-cons_cases m set (before + q) among) [
      | inl at ↦ not_here (q, at, final)
      | inr in_rest ↦ not_later (q, in_rest, final)
    ])
  ]
]
