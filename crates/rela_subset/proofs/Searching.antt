-- The search through the sets that words reach, one more of them left.
use Rattle.std.proofs.Common.{◌≡◌, ℕ, ◌+◌, ◌-◌, ◌<◌, ◌≤◌, ◌⊎◌, Bool, true, false, List, [], ◌∷◌, ◌++◌, length, get_or, refl, sym, ap, ◌∙◌, subst, inl, inr, arith, length-append}
use Rattle.std.proofs.lemmas.Bool.{cases_Bool, cases_lt, false≢true}
use Rattle.std.proofs.lemmas.List.{get_or-map, get_or_append_left, get_or-append_right, length-map}
use Rattle.rela_nfa.specs.Automaton.{Automaton}
use Rattle.rela_nfa.specs.StateSet.{Lists}
use Rattle.rela_labels.specs.Letters.{has}
use Rattle.rela_subset.specs.declared.arrival.Arrival.{Arrival}
use Rattle.rela_subset.specs.Expansion.{Arrives}
use Rattle.rela_subset.specs.Searching.{AreUnwanted, IsSearched, IsSpread, LeadsPast, arrivals_from}
use Rattle.rela_subset.specs.Sets.{ReachedBy}
use Rattle.rela_subset.proofs.Finding.{found_more, found_start, new_arrives, new_word, old_arrives, old_word, past_all, with_longer}

-- the first set alone
pub searched_start : (a : Automaton) (over : List Bool) (first : List ℕ) (sets : List (List ℕ)) (arrivals : List Arrival) → sets ≡ first ∷ [] → arrivals ≡ [] → Lists (ReachedBy a []) first
    → IsSearched a over [] sets arrivals 0
searched_start a over first sets arrivals one none is = subst (λ all. IsSearched a over [] all arrivals 0) (sym one) (subst (λ all. IsSearched a over [] (first ∷ []) all 0) (sym none) (record {
  words = [] ∷ [];
  found = found_start a over first is;
  traced = record {
    first = refl;
    earlier = λ i e below. absurd (omega (arith, below));
    spelled = λ i e below. absurd (omega (arith, below));
  };
  one_each = omega arith;
  out = λ i letter below. absurd (omega (arith, below));
}))

-- no letter is in the rest
pub searched_whole : (a : Automaton) (over rest : List Bool) (sets : List (List ℕ)) (arrivals : List Arrival) (p : ℕ)
    → ((k : ℕ) → has rest k ≡ false) → IsSearched a over rest sets arrivals p → IsSearched a over [] sets arrivals p
searched_whole a over rest sets arrivals p none is = record {
  words = is.words;
  found = is.found;
  traced = is.traced;
  one_each = is.one_each;
  out = λ i k below read. elim (is.out i k below read) [
    | inl arrives ↦ inl arrives
    | inr past ↦ absurd (false≢true (sym (none k) ∙ past.0))
  ];
}

module _ (a : Automaton) (over rest : List Bool) (sets : List (List ℕ)) (arrivals : List Arrival) (p : ℕ) (is : IsSearched a over [] sets arrivals p)
    (left : p < length sets) (new : List (List ℕ)) (letters : List ℕ) (arrivals' : List Arrival)
    (arrived : arrivals' ≡ arrivals ++ arrivals_from p letters) (spread : IsSpread a over rest (get_or sets p []) sets new letters) where
  abbrev longer_words : List (List ℕ)
  longer_words = with_longer is.words p letters

  arrivals_length : length arrivals' ≡ length arrivals + length letters
  arrivals_length =
      ap length arrived ∙ length-append arrivals (arrivals_from p letters)
      ∙ ap (λ n. length arrivals + n) (length-map letters (λ (k : ℕ). let arrival : Arrival = record { from = p; letter = k } in arrival))

  old_arrival : (i : ℕ) (e : Arrival) → i < length arrivals → get_or arrivals' i e ≡ get_or arrivals i e
  old_arrival i e below = ap (λ l. get_or l i e) arrived ∙ get_or_append_left arrivals (arrivals_from p letters) e i below

  new_arrival : (i m : ℕ) (e : Arrival) → m < length letters → i ≡ length arrivals + m → get_or arrivals' i e ≡ record { from = p; letter = get_or letters m 0 }
  new_arrival i m e below at =
      let index : i - length arrivals ≡ m = omega arith in
      ap (λ l. get_or l i e) arrived ∙ get_or-append_right arrivals (arrivals_from p letters) (length arrivals) i e refl (omega arith)
      ∙ ap (λ n. get_or (arrivals_from p letters) n e) index ∙ get_or-map (λ (k : ℕ). let arrival : Arrival = record { from = p; letter = k } in arrival) letters m 0 e below

  -- an arrival is old or new
  record IsNew (i : ℕ) : Type 0 where
    place : ℕ
    below : place < length letters
    at : i ≡ length arrivals + place

  which : (i : ℕ) → i < length arrivals' → (i < length arrivals) ⊎ IsNew i
  which i within = elim (cases_lt i (length arrivals)) [
    | inl below ↦ inl below
    | inr above ↦ let len = arrivals_length in inr (record { place = i - length arrivals; below = omega arith; at = omega arith })
  ]

  -- where a letter leads
  abbrev Goes : ℕ → ℕ → Type 0
  Goes k i = ((to : ℕ) × Arrives a new longer_words i k to) ⊎ ((has rest k ≡ true) × LeadsPast new longer_words i k)

  old : (i : ℕ) → i < length sets → get_or longer_words i [] ≡ get_or is.words i []
  old = old_word a over sets is.words p is.found left new letters spread.grown

  pub searched_more : IsSearched a over rest new arrivals' (p + 1)
  searched_more =
      let one_each = is.one_each in
      record {
        words = longer_words;
        found = found_more a over sets is.words p is.found left new letters spread.grown;
        traced = record {
          first = old 0 is.found.some ∙ is.traced.first;
          earlier = λ i e within. elim (which i within) [
            | inl below ↦ subst (λ arrival. arrival.from ≤ i) (sym (old_arrival i e below)) (is.traced.earlier i e below)
            | inr new_one ↦
                let at = new_one.at in
                subst (λ arrival. arrival.from ≤ i) (sym (new_arrival i new_one.place e new_one.below new_one.at)) (omega arith)
          ];
          spelled = λ i e within. elim (which i within) [
            | inl below ↦
                let earlier = is.traced.earlier i e below in
                subst (λ arrival. get_or longer_words (i + 1) [] ≡ get_or longer_words arrival.from [] ++ arrival.letter ∷ []) (sym (old_arrival i e below))
                (old (i + 1) (omega arith) ∙ is.traced.spelled i e below ∙ ap (λ w. w ++ (get_or arrivals i e).letter ∷ []) (sym (old (get_or arrivals i e).from (omega arith))))
            | inr new_one ↦
                let at = new_one.at in
                subst (λ arrival. get_or longer_words (i + 1) [] ≡ get_or longer_words arrival.from [] ++ arrival.letter ∷ []) (sym (new_arrival i new_one.place e new_one.below new_one.at))
                (new_word a over sets is.words p is.found left new letters spread.grown (i + 1) new_one.place new_one.below (omega arith)
                ∙ ap (λ w. w ++ get_or letters new_one.place 0 ∷ []) (sym (old p left)))
          ];
        };
        one_each = let each = spread.grown.each in let len = arrivals_length in omega (arith, ap length spread.grown.appended, length-append sets spread.grown.more);
        out = λ i k below read. elim (cases_lt i p) [
          | inl earlier ↦ elim (is.out i k earlier read) [
            | inl (to, arrives) ↦ inl (to, old_arrives a over sets is.words p is.found left new letters spread.grown i k to (omega arith) arrives)
            | inr past ↦ absurd (false≢true past.0)
          ]
          | inr not_earlier ↦
              let at : p ≡ i = omega arith in
              subst (Goes k) at (elim (cases_Bool (has rest k)) [
                | inl in_rest ↦ inr (in_rest, past_all a over sets is.words p is.found left new letters spread.grown k (spread.ahead k in_rest))
                | inr taken ↦ let (to, comes) = spread.leads k read taken in inl (to, new_arrives a over sets is.words p is.found left new letters spread.grown k to comes)
              ])
        ];
      }

  -- an old set is as it was
  pub more_unwanted : (P : List ℕ → Type 0) → AreUnwanted P sets → (n : ℕ) → ((i : ℕ) → length sets ≤ i → i < n → ¬ P (get_or new i [])) → (i : ℕ) → i < n → ¬ P (get_or new i [])
  more_unwanted P unwanted n others i below = elim (cases_lt i (length sets)) [
    | inl old_one ↦ λ has_it.
        unwanted i old_one (subst P (ap (λ l. get_or l i []) spread.grown.appended ∙ get_or_append_left sets spread.grown.more [] i old_one) has_it)
    | inr new_one ↦ others i new_one below
  ]
