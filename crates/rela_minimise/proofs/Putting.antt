-- Numbers that are put into lists of lists.
use Rattle.std.proofs.Common.{◌≡◌, ◌≢◌, ℕ, ◌+◌, ◌<◌, ◌≤◌, ◌⊎◌, Bool, List, [], ◌∷◌, ◌++◌, length, get_or, set, map, take, sym, ap, ◌∙◌, subst, inl, inr, arith}
use Rattle.std.specs.List.{All, Contains}
use Rattle.std.proofs.lemmas.Bool.{cases_eq, cases_lt}
use Rattle.std.proofs.lemmas.List.{get_or-set_other, get_or-set_same, length-set, map_more, take_all}
use Rattle.std.proofs.lemmas.List.Elements.{All-contains, All-push, Contains-append_left, Contains-get_or, Contains-push, Contains-push_cases}
use Rattle.rela_nfa.specs.Automaton.{Move}
use Rattle.rela_nfa.specs.Stored.{move_of}
use Rattle.rela_nfa.specs.declared.edge.Edge.{Edge}
use Rattle.rela_subset.specs.Deterministic.{Deterministic, moves_of, states}
use Rattle.rela_minimise.specs.Refining.{ArePredecessors, HasAdded}

-- the number has been put into the list at this place
pub record IsPut (lists : List (List ℕ)) (at x : ℕ) (lists' : List (List ℕ)) : Type 0 where
  pub each : length lists' ≡ length lists
  pub here : get_or lists' at [] ≡ get_or lists at [] ++ x ∷ []
  pub others : (q : ℕ) → q ≢ at → get_or lists' q [] ≡ get_or lists q []

pub is_put : (lists : List (List ℕ)) (at x : ℕ) (lists' : List (List ℕ)) → at < length lists → lists' ≡ set lists at (get_or lists at [] ++ x ∷ []) → IsPut lists at x lists'
is_put lists at x lists' within is = record {
  each = ap length is ∙ length-set lists at (get_or lists at [] ++ x ∷ []);
  here = ap (λ ls. get_or ls at []) is ∙ get_or-set_same lists at (get_or lists at [] ++ x ∷ []) [] within;
  others = λ q other. ap (λ ls. get_or ls q []) is ∙ get_or-set_other lists at q (get_or lists at [] ++ x ∷ []) [] other;
}

module _ (lists : List (List ℕ)) (at x : ℕ) (lists' : List (List ℕ)) (put : IsPut lists at x lists') where
  pub put_kept : (q r : ℕ) → Contains (get_or lists q []) r → Contains (get_or lists' q []) r
  put_kept q r among = elim (cases_eq q at) [
    | inl here ↦
        subst (λ l. Contains l r) (sym (ap (λ n. get_or lists' n []) here ∙ put.here))
        (Contains-append_left (get_or lists at []) (x ∷ []) r (subst (λ n. Contains (get_or lists n []) r) here among))
    | inr other ↦ subst (λ l. Contains l r) (sym (put.others q other)) among
  ]

  pub put_here : Contains (get_or lists' at []) x
  put_here = subst (λ l. Contains l x) (sym put.here) (Contains-push (get_or lists at []) x)

  pub put_only : (q r : ℕ) → Contains (get_or lists' q []) r → Contains (get_or lists q []) r ⊎ (r ≡ x)
  put_only q r among = elim (cases_eq q at) [
    | inl here ↦ elim (Contains-push_cases (get_or lists at []) x r (subst (λ l. Contains l r) (ap (λ n. get_or lists' n []) here ∙ put.here) among)) [
      | inl earlier ↦ inl (subst (λ n. Contains (get_or lists n []) r) (sym here) earlier)
      | inr last ↦ inr (sym last)
    ]
    | inr other ↦ inl (subst (λ l. Contains l r) (put.others q other) among)
  ]

  pub put_within : (n : ℕ) → x < n → ((q : ℕ) → All (λ r. r < n) (get_or lists q [])) → (q : ℕ) → All (λ r. r < n) (get_or lists' q [])
  put_within n below all q = elim (cases_eq q at) [
    | inl here ↦
        subst (All (λ r. r < n)) (sym (ap (λ m. get_or lists' m []) here ∙ put.here))
        (All-push (λ r. r < n) (get_or lists at []) x (all at) below)
    | inr other ↦ subst (All (λ r. r < n)) (sym (put.others q other)) (all q)
  ]

-- one edge more
pub added_more : {L : Type 0} (letters : L → List Bool) (edges : List (Edge L)) (i p : ℕ) (edge : Edge L) (lists before after : List (List ℕ)) → i < length edges → edge ≡ get_or edges i edge
    → HasAdded (map (move_of letters) (take i edges)) p lists before → edge.to < length before → after ≡ set before edge.to (get_or before edge.to [] ++ p ∷ [])
    → HasAdded (map (move_of letters) (take (i + 1) edges)) p lists after
added_more letters edges i p edge lists before after below at has within is =
    let put = is_put before edge.to p after within is in
    let more : map (move_of letters) (take (i + 1) edges) ≡ map (move_of letters) (take i edges) ++ move_of letters edge ∷ [] =
    map_more (move_of letters) edges i edge below ∙ ap (λ e. map (move_of letters) (take i edges) ++ move_of letters e ∷ []) (sym at) in
    record {
      each = put.each ∙ has.each;
      kept = λ q r among. put_kept before edge.to p after put q r (has.kept q r among);
      added = λ move among. elim (Contains-push_cases (map (move_of letters) (take i edges)) (move_of letters edge) move (subst (λ ms. Contains ms move) more among)) [
        | inl earlier ↦ put_kept before edge.to p after put move.to p (has.added move earlier)
        | inr last ↦ subst (λ n. Contains (get_or after n []) p) (ap (λ m. m.to) last) (put_here before edge.to p after put)
      ];
      only = λ q r among. elim (put_only before edge.to p after put q r among) [
        | inl earlier ↦ has.only q r earlier
        | inr last ↦ inr last
      ];
    }

pub added_all : {L : Type 0} (letters : L → List Bool) (edges : List (Edge L)) (i p : ℕ) (lists lists' : List (List ℕ)) → length edges ≤ i
    → HasAdded (map (move_of letters) (take i edges)) p lists lists' → HasAdded (map (move_of letters) edges) p lists lists'
added_all letters edges i p lists lists' all = subst (λ es. HasAdded (map (move_of letters) es) p lists lists') (take_all i edges all)

-- what is known of the states so far
pub record Precede (d : Deterministic) (i : ℕ) (lists : List (List ℕ)) : Type 0 where
  pub each : length lists ≡ states d
  pub all : (p : ℕ) (move : Move) → p < i → Contains (moves_of d p) move → Contains (get_or lists move.to []) p
  pub within : (q : ℕ) → All (λ p. p < states d) (get_or lists q [])

pub precede_none : (d : Deterministic) (lists : List (List ℕ)) → length lists ≡ states d → ((i : ℕ) → get_or lists i [] ≡ []) → Precede d 0 lists
precede_none d lists each empty = record {
  each = each;
  all = λ p move below among. absurd (omega (arith, below));
  within = λ q. subst (All (λ p. p < states d)) (sym (empty q)) (λ k e below. absurd (omega (arith, below)));
}

pub precede_more : (d : Deterministic) (i : ℕ) (moves : List Move) (lists lists' : List (List ℕ)) → i < states d → moves ≡ moves_of d i → Precede d i lists → HasAdded moves i lists lists' → Precede d (i + 1) lists'
precede_more d i moves lists lists' below are before has = record {
  each = has.each ∙ before.each;
  all = λ p move p_in among. elim (cases_lt p i) [
    | inl earlier ↦ has.kept move.to p (before.all p move earlier among)
    | inr not_earlier ↦
        let last : p ≡ i = omega arith in
        subst (λ n. Contains (get_or lists' move.to []) n) (sym last) (has.added move (subst (λ ms. Contains ms move) (sym are) (subst (λ n. Contains (moves_of d n) move) last among)))
  ];
  within = λ q k e inside. elim (has.only q (get_or (get_or lists' q []) k e) (Contains-get_or (get_or lists' q []) k e inside)) as (λ _. get_or (get_or lists' q []) k e < states d) [
    | inl earlier ↦ All-contains (λ p. p < states d) (get_or lists q []) (get_or (get_or lists' q []) k e) (before.within q) earlier
    | inr last ↦ subst (λ n. n < states d) (sym last) below
  ];
}

pub precede_all : (d : Deterministic) (i : ℕ) (lists : List (List ℕ)) → states d ≤ i → Precede d i lists → ArePredecessors d lists
precede_all d i lists all are = record {
  each = are.each;
  all = λ p move below among. are.all p move (omega arith) among;
  within = are.within;
}
