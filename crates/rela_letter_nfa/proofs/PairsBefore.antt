-- Words that reach different pairs of sets of states, where there are more than the limit.
use Rattle.std.proofs.Common.{◌≡◌, ℕ, ◌+◌, ◌<◌, ◌≤◌, ◌⊎◌, List, [], length, get_or, take, sym, subst, inl, inr, arith}
use Rattle.std.proofs.lemmas.List.{get_or_default, get_or-take, length-take-le}
use Rattle.std.proofs.lemmas.List.Elements.{All-from_get_or}
use Rattle.rela_names.specs.Shortlex.{IsBefore}
use Rattle.rela_letter_nfa.specs.Differences.{AreApart, Differs, ReachPairsBefore}
use Rattle.rela_letter_nfa.specs.Pair.{ArePaired, Pair, joined, starts_of}
use Rattle.rela_letter_nfa.specs.Runs.{Reach}
use Rattle.rela_letter_nfa.specs.Searching.{IsPastLimit}
use Rattle.rela_letter_nfa.specs.Sets.{LeadsFrom}
use Rattle.rela_letter_nfa.specs.declared.arrival.Arrival.{Arrival}
use Rattle.rela_letter_nfa.specs.declared.difference.Sought.{Sought}
use Rattle.rela_letter_nfa.proofs.Ascending.{apart_lists}
use Rattle.rela_letter_nfa.proofs.Differing.{none_before}
use Rattle.rela_letter_nfa.proofs.Halves.{first_reached, second_reached, which}

module _ (sought : Sought) (pair : Pair) (are : ArePaired pair) where
  abbrev InOne : List ℕ → List ℕ → Type 0
  InOne v w = AreApart pair.first v w ⊎ AreApart pair.second v w

  -- a state of one of the two automata is reached by one of the words alone
  apart_in_one : (v w : List ℕ) (q : ℕ) → LeadsFrom (joined pair) (starts_of pair) v q → ¬ LeadsFrom (joined pair) (starts_of pair) w q
      → ((p : ℕ) × Reach pair.first p v × ¬ Reach pair.first p w) ⊎ ((p : ℕ) × Reach pair.second p v × ¬ Reach pair.second p w)
  apart_in_one v w q leads other = elim (which pair are v q leads) [
    | inl (reach, within) ↦ inl (q, reach, λ r. other ((first_reached pair are q w within).1 r))
    | inr (p, at, reach) ↦ inr (p, reach, λ r. other (subst (LeadsFrom (joined pair) (starts_of pair) w) at ((second_reached pair are p w).1 r)))
  ]

  apart_words : (v w : List ℕ) (q : ℕ) → (LeadsFrom (joined pair) (starts_of pair) v q × ¬ LeadsFrom (joined pair) (starts_of pair) w q)
      ⊎ (LeadsFrom (joined pair) (starts_of pair) w q × ¬ LeadsFrom (joined pair) (starts_of pair) v q) → InOne v w
  apart_words v w q one = elim one [
    | inl (leads, other) ↦ elim (apart_in_one v w q leads other) [
      | inl (p, reach, no_reach) ↦ inl (p, inl (reach, no_reach))
      | inr (p, reach, no_reach) ↦ inr (p, inl (reach, no_reach))
    ]
    | inr (leads, other) ↦ elim (apart_in_one w v q leads other) [
      | inl (p, reach, no_reach) ↦ inl (p, inr (reach, no_reach))
      | inr (p, reach, no_reach) ↦ inr (p, inr (reach, no_reach))
    ]
  ]

  pub pairs_before : (limit : ℕ) (sets : List (List ℕ)) (arrivals : List Arrival) → IsPastLimit sought pair limit sets arrivals
      → ReachPairsBefore pair.first pair.second (Differs sought pair.first pair.second) (limit + 1)
  pairs_before limit sets arrivals is =
      let (left, bound, searched) = is.searched in
      let n : ℕ = limit + 1 in
      let enough : n ≤ length sets = omega (arith, is.past.past) in
      let words = searched.words in
      let some : List (List ℕ) = take n words in
      let count : length some ≡ n = length-take-le n words (omega (arith, enough, searched.each)) in
      let early : List ℕ → Type 0 = λ w. (v : List ℕ) → Differs sought pair.first pair.second v → ¬ IsBefore v w in
      record {
        words = some;
        count = count;
        apart = λ i j e before within.
            let j_few : j < n = omega (arith, within, count) in
            let i_few : i < n = omega (arith, before, j_few) in
            let i_in : i < length some = omega (arith, before, within) in
            let told = apart_lists (LeadsFrom (joined pair) (starts_of pair) (get_or words i [])) (LeadsFrom (joined pair) (starts_of pair) (get_or words j [])) (get_or sets i []) (get_or sets j [])
            (searched.reached i (omega (arith, i_few, enough))) (searched.reached j (omega (arith, j_few, enough))) (is.past.distinct i j before (omega (arith, j_few, enough))) in
            let here : InOne (get_or words i []) (get_or words j []) = apart_words (get_or words i []) (get_or words j []) told.0 told.1 in
            subst (λ w. InOne w (get_or some j e)) (get_or_default some i [] e i_in)
            (subst (λ w. InOne (get_or some i []) w) (get_or_default some j [] e within)
            (subst (λ w. InOne w (get_or some j [])) (sym (get_or-take n words i [] i_few))
            (subst (λ w. InOne (get_or words i []) w) (sym (get_or-take n words j [] j_few)) here)));
        early = All-from_get_or early some [] (λ j below.
            let j_few : j < n = omega (arith, below, count) in
            let j_in : j < length sets = omega (arith, j_few, enough) in
            subst early (sym (get_or-take n words j [] j_few))
            (none_before sought pair are sets arrivals left bound searched j j_in (λ i less. is.unwanted i (omega (arith, less, j_in)))));
      }
