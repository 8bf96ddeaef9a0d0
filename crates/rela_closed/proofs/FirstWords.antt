-- What the words of a whole search are.
use Rattle.std.proofs.Common.{◌≡◌, ℕ, zero, suc, ◌+◌, ◌<◌, ◌≤◌, Bool, true, false, eqb, List, [], ◌∷◌, ◌++◌, length, get_or, refl, sym, ap, ◌∙◌, subst, inl, inr, arith}
use Rattle.std.specs.List.{All, AllPairs, list_any}
use Rattle.std.proofs.lemmas.Bool.{cases_Bool, cases_lt}
use Rattle.std.proofs.lemmas.List.{append-nil, append_assoc, get_or_default}
use Rattle.std.proofs.lemmas.List.Elements.{All-from_get_or, All-get_or, All-head, All-tail, Contains-get_or}
use Rattle.std.proofs.lemmas.Map.Keys.{IsDistinct-from_apart}
use Rattle.std.proofs.lemmas.Map.Steps.{length-le_from_distinct_below}
use Rattle.std.proofs.lemmas.Map.Views.{Contains-from_any, exact_unsigned_eq}
use Rattle.rela_labels.specs.Letters.{has}
use Rattle.rela_names.specs.Shortlex.{First, IsBefore}
use Rattle.rela_nfa.specs.Automaton.{Automaton}
use Rattle.rela_closed.specs.Closed.{AreApart, IsClosed, ReachSets, ReachesLike, SameStates}
use Rattle.rela_build.specs.Complement.{IsOver}
use Rattle.rela_closed.specs.Listing.{IsSearched}
use Rattle.rela_closed.specs.Sets.{AreDistinct, AreReached}
use Rattle.rela_closed.specs.Words.{IsUpTo}
use Rattle.rela_closed.proofs.Alike.{apart_not_same, same_push, same_refl, same_sym, same_trans}
use Rattle.rela_closed.proofs.JointSets.{same_sets, sets_same}
use Rattle.rela_closed.proofs.LastLetters.{IsTransitive, before_upto, upto_push, upto_transitive}
use Rattle.rela_closed.proofs.Searching.{words_apart}

module _ (transitive : IsTransitive) (irreflexive : (u : List ℕ) → ¬ IsBefore u u) (over : List Bool) (automata : List Automaton) (words : List (List ℕ)) (table : List (List (List ℕ)))
    (is : IsSearched over automata words table (length words) 0) (distinct : AreDistinct table) where
  -- a listed word that isn't after the word reaches the same states
  abbrev Told : List ℕ → Type 0
  Told word = (i : ℕ) × (i < length words) × SameStates automata (get_or words i []) word × IsUpTo (get_or words i []) word

  told_push : (word : List ℕ) (k : ℕ) → has over k ≡ true → Told word → Told (word ++ k ∷ [])
  told_push word k read (i, below, same, upto) =
      let (to, to_below, leads, early) = is.out i k below (inl below) read in
      let here = get_or words i [] in
      let there = get_or words to [] in (
        to,
        to_below,
        same_trans automata there (here ++ k ∷ []) (word ++ k ∷ [])
            (sets_same automata there (here ++ k ∷ []) (get_or table to []) (is.reached to to_below) (leads here (is.reached i below))) (same_push automata here word k same),
        upto_transitive transitive there (here ++ k ∷ []) (word ++ k ∷ []) early (upto_push here word k upto),
      )

  told_on : (front back : List ℕ) → IsOver over back → Told front → Told (front ++ back)
  told_on front [] read told = subst Told (sym (append-nil front)) told
  told_on front (k ∷ back) read told =
      subst Told (append_assoc front (k ∷ []) back)
      (told_on (front ++ k ∷ []) back (All-tail (λ j. has over j ≡ true) k back read) (told_push front k (All-head (λ j. has over j ≡ true) k back read) told))

  told : (word : List ℕ) → IsOver over word → Told word
  told word read = told_on [] word read (0, is.some, subst (λ w. SameStates automata w []) (sym is.first) (same_refl automata []), inl is.first)

  pub search_closed : IsClosed over automata words
  search_closed word k (i, below, at) read =
      let here : get_or words i [] ≡ word = get_or_default words i [] word below ∙ at in
      let (to, to_below, leads, early) = is.out i k below (inl below) read in (
        get_or words to [],
        Contains-get_or words to [] to_below,
        sets_same automata (get_or words to []) (word ++ k ∷ []) (get_or table to []) (is.reached to to_below)
            (leads word (subst (λ w. AreReached automata w (get_or table i [])) here (is.reached i below))),
      )

  -- listed words that reach the same states are one
  same_place : (i j : ℕ) → i < length words → j < length words → SameStates automata (get_or words i []) (get_or words j []) → i ≡ j
  same_place i j i_in j_in same =
      let each = is.each in
      let equal = same_sets automata (get_or words i []) (get_or words j []) (get_or table i []) (get_or table j []) (is.reached i i_in) (is.reached j j_in) same in
      elim (cases_lt i j) [
        | inl before ↦ absurd (distinct i j before (omega arith) equal)
        | inr not_before ↦ elim (cases_lt j i) [
          | inl after ↦ absurd (distinct j i after (omega arith) (sym equal))
          | inr not_after ↦ omega arith
        ]
      ]

  pub search_first : All (λ word. First (ReachesLike over automata word) word) words
  search_first = All-from_get_or (λ word. First (ReachesLike over automata word) word) words [] (λ i below.
      let word = get_or words i [] in
      record {
        member = (All-get_or (IsOver over) words i [] below is.read, same_refl automata word);
        least = λ u like before.
            let (j, j_below, same, upto) = told u like.0 in
            let at = same_place j i j_below below (same_trans automata (get_or words j []) u word same like.1) in
            irreflexive u (before_upto transitive u word u before (subst (λ m. IsUpTo (get_or words m []) u) at upto));
      })

  pub search_ascending : AllPairs IsBefore words
  search_ascending i j e before within =
      subst (λ w. IsBefore w (get_or words j e)) (get_or_default words i [] e (omega arith))
      (subst (λ w. IsBefore (get_or words i []) w) (get_or_default words j [] e within) (is.ascending i j before within))

  pub search_apart : AllPairs (AreApart automata) words
  search_apart = words_apart transitive over automata words table (length words) 0 is distinct

  -- the places of the listed words that reach the same states as some words
  record ArePlaces (others : List (List ℕ)) : Type 0 where
    places : List ℕ
    each : length places ≡ length others
    within : (i e : ℕ) → i < length others → get_or places i e < length words
    same : (i e : ℕ) → i < length others → SameStates automata (get_or words (get_or places i e) []) (get_or others i [])

  places_of : (others : List (List ℕ)) → All (IsOver over) others → ArePlaces others
  places_of [] read = record { places = []; each = refl; within = λ i e below. absurd (omega (arith, below)); same = λ i e below. absurd (omega (arith, below)) }
  places_of (word ∷ others) read =
      let (i, below, same, upto) = told word (All-head (IsOver over) word others read) in
      let rest = places_of others (All-tail (IsOver over) word others read) in
      record {
        places = i ∷ rest.places;
        each = ap suc rest.each;
        within = within i below others rest;
        same = same_at i word same others rest;
      }
    where
      within : (i : ℕ) → i < length words → (others : List (List ℕ)) (rest : ArePlaces others) → (m e : ℕ) → m < suc (length others) → get_or (i ∷ rest.places) m e < length words
      within i below others rest zero e m_in = below
      within i below others rest (suc m) e m_in = rest.within m e (omega (arith, m_in))

      same_at : (i : ℕ) (word : List ℕ) → SameStates automata (get_or words i []) word → (others : List (List ℕ)) (rest : ArePlaces others) → (m e : ℕ) → m < suc (length others)
          → SameStates automata (get_or words (get_or (i ∷ rest.places) m e) []) (get_or (word ∷ others) m [])
      same_at i word same others rest zero e m_in = same
      same_at i word same others rest (suc m) e m_in = rest.same m e (omega (arith, m_in))

  -- no more words are apart than are listed
  pub search_few : (n : ℕ) → length words ≤ n → ¬ ReachSets over automata (n + 1)
  search_few n few reach =
      let at = places_of reach.words reach.letters in
      let numbers : List ℕ = at.places in
      let len : length numbers ≡ length reach.words = at.each in
      let differ = λ (i j e : ℕ) (before : i < j) (within : j < length numbers).
      let i_in : i < length reach.words = omega arith in
      let j_in : j < length reach.words = omega arith in
      elim (cases_Bool (eqb (get_or numbers i e) (get_or numbers j e))) as (λ _. eqb (get_or numbers i e) (get_or numbers j e) ≡ false) [
        | inl same ↦
            let equal : get_or numbers i e ≡ get_or numbers j e = exact_unsigned_eq (get_or numbers i e) (get_or numbers j e) same in
            let v = get_or reach.words i [] in
            let w = get_or reach.words j [] in
            let from = get_or words (get_or numbers i e) [] in
            let alike : SameStates automata v w = same_trans automata v from w (same_sym automata from v (at.same i e i_in))
            (subst (λ m. SameStates automata (get_or words m []) w) (sym equal) (at.same j e j_in)) in
            absurd (apart_not_same automata v w (reach.apart i j [] before j_in) alike)
        | inr other ↦ other
      ] in
      let below = λ (q : ℕ) (among : list_any (eqb q) numbers ≡ true).
      let c = Contains-from_any exact_unsigned_eq q numbers among in
      let within : q < length words = subst (λ m. m < length words) c.2 (at.within c.0 q (omega (arith, c.1))) in within in
      let bound : length numbers ≤ length words = length-le_from_distinct_below numbers (length words) (IsDistinct-from_apart eqb numbers differ) below in
      let counted = reach.count in
      omega arith

-- the search that has left all sets
pub search_done : (over : List Bool) (automata old : List Automaton) (words : List (List ℕ)) (table : List (List (List ℕ))) (p : ℕ) → old ≡ automata → p ≤ length table → length table ≤ p
    → IsSearched over old words table p 0 → IsSearched over automata words table (length words) 0
search_done over automata old words table p same within all searched =
    let last : p ≡ length words = let each = searched.each in omega arith in
    subst (λ (l : List Automaton). IsSearched over l words table (length words) 0) same (subst (λ n. IsSearched over old words table n 0) last searched)
