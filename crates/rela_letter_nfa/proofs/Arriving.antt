-- The search, where a set has arrived.
use Rattle.std.proofs.Common.{◌≡◌, ℕ, ◌+◌, ◌<◌, ◌≤◌, List, [], ◌∷◌, length, get_or, sym, ap, ◌∙◌, subst, inl, inr, arith}
use Rattle.std.proofs.lemmas.List.{get_or_append_left, length_push}
use Rattle.rela_letter_nfa.specs.LetterAutomaton.{LetterAutomaton}
use Rattle.rela_letter_nfa.specs.Outgoing.{AreComing, IsRest, NextBy}
use Rattle.rela_letter_nfa.specs.Searching.{HasArrived, IsSearched}
use Rattle.rela_letter_nfa.specs.Sets.{Lists, NextFrom}
use Rattle.rela_letter_nfa.specs.declared.arrival.Arrival.{Arrival}
use Rattle.rela_letter_nfa.specs.declared.edge.LetterEdge.{LetterEdge}
use Rattle.rela_letter_nfa.proofs.EdgesOut.{coming_bound, coming_more, coming_next, coming_skipped}
use Rattle.rela_letter_nfa.proofs.Searching.{searched_new, searched_old}

module _ (sets new : List (List ℕ)) (arrivals after : List Arrival) (number : ℕ) (within : number < length sets) (set : List ℕ) (arrival : Arrival)
    (arrived : HasArrived set arrival sets new arrivals after) where
  pub arrived_within : number < length new
  arrived_within = elim arrived [
    | inl (same, put, known) ↦ omega (arith, within, ap length same)
    | inr (grown, put) ↦ omega (arith, within, ap length grown, length_push sets set)
  ]

  pub arrived_longer : length sets ≤ length new
  arrived_longer = elim arrived [
    | inl (same, put, known) ↦ omega (arith, ap length same)
    | inr (grown, put) ↦ omega (arith, ap length grown, length_push sets set)
  ]

  pub arrived_kept : get_or new number [] ≡ get_or sets number []
  arrived_kept = elim arrived [
    | inl (same, put, known) ↦ ap (λ l. get_or l number []) same
    | inr (grown, put) ↦ ap (λ l. get_or l number []) grown ∙ get_or_append_left sets (set ∷ []) [] number within
  ]

module _ (a : LetterAutomaton) (starts : List ℕ) (sets : List (List ℕ)) (arrivals : List Arrival) (number bound : ℕ) (is : IsSearched a starts sets arrivals number bound)
    (within : number < length sets) (edges : List LetterEdge) (coming : AreComing a (get_or sets number []) bound edges) (first : LetterEdge) (later : List LetterEdge) (split : edges ≡ first ∷ later)
    (set : List ℕ) (next : Lists (NextBy a edges first.letter) set) (new : List (List ℕ)) (after : List Arrival)
    (arrived : HasArrived set (record { from = number; letter = first.letter }) sets new arrivals after) where
  pub arrived_searched : IsSearched a starts new after number (first.letter + 1)
  arrived_searched =
      let here : List ℕ = get_or sets number [] in
      let above = coming_bound a here bound edges coming first later split in
      let skipped = coming_skipped a here bound edges coming first later split in
      let follows = coming_next a here bound edges coming first later split set next in
      elim arrived [
        | inl (same, put, (j, j_in, at)) ↦
            subst (λ all. IsSearched a starts all after number (first.letter + 1)) (sym same)
            (subst (λ all. IsSearched a starts sets all number (first.letter + 1)) (sym put)
            (searched_old a starts sets arrivals number bound is first.letter within above skipped j j_in (subst (Lists (NextFrom a here first.letter)) (sym at) follows)))
        | inr (grown, put) ↦ searched_new a starts sets arrivals number bound is first.letter within above skipped set new after grown put follows
      ]

  pub arrived_coming : (rest : List LetterEdge) → IsRest first.letter edges rest → AreComing a (get_or new number []) (first.letter + 1) rest
  arrived_coming rest others =
      subst (λ s. AreComing a s (first.letter + 1) rest) (sym (arrived_kept sets new arrivals after number within set (record { from = number; letter = first.letter }) arrived))
      (coming_more a (get_or sets number []) bound edges coming first later split rest others)
