-- The sets that have been found, with those that come where one more is left.
use Rattle.std.proofs.Common.{◌≡◌, ℕ, ◌+◌, ◌-◌, ◌<◌, ◌≤◌, ◌⊎◌, Bool, true, List, [], ◌∷◌, ◌++◌, length, get_or, map, take, refl, sym, ap, ◌∙◌, subst, inl, inr, arith, length-append}
use Rattle.std.specs.List.{All}
use Rattle.std.proofs.lemmas.Bool.{cases_lt, cases_eq}
use Rattle.std.proofs.lemmas.List.{get_or_default, get_or-map, get_or-take, get_or_append_left, get_or-append_right, length-map, length-take-le}
use Rattle.std.proofs.lemmas.List.Elements.{All-from_get_or, All-get_or, All-nil, All-push}
use Rattle.rela_labels.specs.Letters.{has}
use Rattle.rela_names.specs.Shortlex.{IsBefore}
use Rattle.rela_nfa.specs.Automaton.{Automaton, IsAutomaton, states}
use Rattle.rela_nfa.specs.StateSet.{Lists}
use Rattle.rela_subset.specs.Deterministic.{IsOver}
use Rattle.rela_subset.specs.Expansion.{AreFound, Arrives, Comes, HasGrown, IsUpTo}
use Rattle.rela_subset.specs.Sets.{AreDistinct, NextFrom, ReachedBy}
use Rattle.rela_subset.specs.Subsets.{AreApart, ReachSets}
use Rattle.rela_subset.proofs.Ascending.{apart_lists}
use Rattle.rela_subset.proofs.LastLetters.{before_last, before_push, nil_before}
use Rattle.rela_subset.proofs.Reached.{reached_next, reached_within}

-- the first set alone
pub found_start : (a : Automaton) (over : List Bool) (first : List ℕ) → Lists (ReachedBy a []) first → AreFound a over (first ∷ []) ([] ∷ []) 0
found_start a over first is = record {
  each = refl;
  some = omega arith;
  first = refl;
  read = λ i below. let zero' : i ≡ 0 = omega arith in subst (λ n. IsOver over (get_or ([] ∷ []) n [])) (sym zero') (All-nil (λ k. has over k ≡ true));
  reached = λ i below. let zero' : i ≡ 0 = omega arith in
      subst (λ n. Lists (ReachedBy a (get_or ([] ∷ []) n [])) (get_or (first ∷ []) n [])) (sym zero') is;
  ascending = λ i j below within. absurd (omega (arith, below, within));
  grown = λ i above within. absurd (omega (arith, above, within));
  few = omega arith;
}

-- the words of the sets that are found from one, by their letters
abbrev pub longer : List ℕ → List ℕ → List (List ℕ)
longer here letters = map (λ k. here ++ k ∷ []) letters

-- the words, with those of the sets that are found from the one of number p
abbrev pub with_longer : List (List ℕ) → ℕ → List ℕ → List (List ℕ)
with_longer words p letters = words ++ longer (get_or words p []) letters

-- what comes to the sets where the one of number p is left
module _ (a : Automaton) (over : List Bool) (sets words : List (List ℕ)) (p : ℕ) (is : AreFound a over sets words p)
    (left : p < length sets) (new : List (List ℕ)) (letters : List ℕ)
    (grows : HasGrown a over (get_or sets p []) sets new letters) where
  abbrev here : List ℕ
  here = get_or words p []

  abbrev words' : List (List ℕ)
  words' = with_longer words p letters

  pub new_length : length new ≡ length sets + length letters
  new_length = ap length grows.appended ∙ length-append sets grows.more ∙ ap (λ n. length sets + n) grows.each

  pub words_length : length words' ≡ length new
  words_length =
      let parts = length-append words (longer here letters) in
      let mapped = length-map letters (λ (k : ℕ). here ++ k ∷ []) in
      let each = is.each in let len = new_length in omega arith

  pub old_word : (i : ℕ) → i < length sets → get_or words' i [] ≡ get_or words i []
  old_word i below = get_or_append_left words (longer here letters) [] i (let each = is.each in omega arith)

  old_set : (i : ℕ) → i < length sets → get_or new i [] ≡ get_or sets i []
  old_set i below = ap (λ l. get_or l i []) grows.appended ∙ get_or_append_left sets grows.more [] i below

  pub new_word : (i m : ℕ) → m < length letters → i ≡ length sets + m → get_or words' i [] ≡ here ++ get_or letters m 0 ∷ []
  new_word i m below at =
      let each = is.each in
      let index : i - length words ≡ m = omega arith in
      get_or-append_right words (longer here letters) (length words) i [] refl (omega arith)
      ∙ ap (λ n. get_or (longer here letters) n []) index ∙ get_or-map (λ (k : ℕ). here ++ k ∷ []) letters m 0 [] below

  new_set : (i m : ℕ) → m < length letters → i ≡ length sets + m → get_or new i [] ≡ get_or grows.more m []
  new_set i m below at =
      let index : i - length sets ≡ m = omega arith in
      ap (λ l. get_or l i []) grows.appended
      ∙ get_or-append_right sets grows.more (length sets) i [] refl (omega arith) ∙ ap (λ n. get_or grows.more n []) index

  -- a set is old or new
  abbrev Which : ℕ → Type 0
  Which i = (i < length sets) ⊎ ((m : ℕ) × (m < length letters) × (i ≡ length sets + m))

  which : (i : ℕ) → i < length new → Which i
  which i within = elim (cases_lt i (length sets)) [
    | inl below ↦ inl below
    | inr above ↦ let len = new_length in let m : ℕ = i - length sets in inr (m, omega arith, omega arith)
  ]

  -- an old word is before each new one
  old_before : (i k : ℕ) → i < length sets → IsBefore (get_or words i []) (here ++ k ∷ [])
  old_before i k below = elim (cases_eq i 0) [
    | inl first ↦ subst (λ w. IsBefore w (here ++ k ∷ [])) (sym (ap (λ n. get_or words n []) first ∙ is.first)) (nil_before here k)
    | inr later ↦
        let (q, letter, earlier, spelled) = is.grown i (omega arith) below in
        subst (λ w. IsBefore w (here ++ k ∷ [])) (sym spelled)
        (before_push (get_or words q []) here letter k (is.ascending q p earlier left))
  ]

  read' : (i : ℕ) → i < length new → IsOver over (get_or words' i [])
  read' i within = elim (which i within) [
    | inl old ↦ subst (IsOver over) (sym (old_word i old)) (is.read i old)
    | inr (m, below, at) ↦
        subst (IsOver over) (sym (new_word i m below at))
        (All-push (λ k. has over k ≡ true) here (get_or letters m 0) (is.read p left) (All-get_or (λ k. has over k ≡ true) letters m 0 below grows.read))
  ]

  reached' : (i : ℕ) → i < length new → Lists (ReachedBy a (get_or words' i [])) (get_or new i [])
  reached' i within = elim (which i within) [
    | inl old ↦
        subst (λ w. Lists (ReachedBy a w) (get_or new i [])) (sym (old_word i old))
        (subst (λ s. Lists (ReachedBy a (get_or words i [])) s) (sym (old_set i old)) (is.reached i old))
    | inr (m, below, at) ↦
        subst (λ w. Lists (ReachedBy a w) (get_or new i [])) (sym (new_word i m below at))
        (subst (λ s. Lists (ReachedBy a (here ++ get_or letters m 0 ∷ [])) s) (sym (new_set i m below at))
        (reached_next a (get_or sets p []) (get_or grows.more m []) (get_or letters m 0) here (is.reached p left) (grows.found m below)))
  ]

  ascending' : (i j : ℕ) → i < j → j < length new → IsBefore (get_or words' i []) (get_or words' j [])
  ascending' i j before within = elim (which j within) [
    | inl old ↦
        subst (λ w. IsBefore w (get_or words' j [])) (sym (old_word i (omega arith)))
        (subst (λ w. IsBefore (get_or words i []) w) (sym (old_word j old)) (is.ascending i j before old))
    | inr (m, m_below, m_at) ↦
        subst (λ w. IsBefore (get_or words' i []) w) (sym (new_word j m m_below m_at)) (elim (which i (omega arith)) [
          | inl old ↦ subst (λ w. IsBefore w (here ++ get_or letters m 0 ∷ [])) (sym (old_word i old)) (old_before i (get_or letters m 0) old)
          | inr (n, n_below, n_at) ↦
              subst (λ w. IsBefore w (here ++ get_or letters m 0 ∷ [])) (sym (new_word i n n_below n_at))
              (before_last here (get_or letters n 0) (get_or letters m 0) (grows.rising n m (omega arith) m_below))
        ])
  ]

  pub more_sets : length sets ≤ length new
  more_sets = let len = new_length in omega arith

  pub found_more : AreFound a over new words' (p + 1)
  found_more = record {
    each = words_length;
    some = let some = is.some in let more = more_sets in omega arith;
    first = old_word 0 is.some ∙ is.first;
    read = read';
    reached = reached';
    ascending = ascending';
    grown = λ i above within. elim (which i within) [
      | inl old ↦
          let (q, letter, earlier, spelled) = is.grown i above old in
          (q, letter, omega arith, old_word i old ∙ spelled ∙ ap (λ w. w ++ letter ∷ []) (sym (old_word q (omega arith))))
      | inr (m, below, at) ↦
          (p, get_or letters m 0, omega arith, new_word i m below at ∙ ap (λ w. w ++ get_or letters m 0 ∷ []) (sym (old_word p left)))
    ];
    few = let more = more_sets in omega arith;
  }

  -- where a letter led from a set that was left before
  pub old_arrives : (i k to : ℕ) → i < length sets → Arrives a sets words i k to → Arrives a new words' i k to
  old_arrives i k to below is_there =
      let within = is_there.within in let more = more_sets in
      record {
        within = omega arith;
        follows = subst (λ s. Lists (NextFrom a s k) (get_or new to [])) (sym (old_set i below))
            (subst (λ s. Lists (NextFrom a (get_or sets i []) k) s) (sym (old_set to within)) is_there.follows);
        early = subst (λ w. IsUpTo w (get_or words' i [] ++ k ∷ [])) (sym (old_word to within))
            (subst (λ w. IsUpTo (get_or words to []) (w ++ k ∷ [])) (sym (old_word i below)) is_there.early);
      }

  -- where a letter leads from the set that is left
  pub new_arrives : (k to : ℕ) → Comes a (get_or sets p []) sets new letters k to → Arrives a new words' p k to
  new_arrives k to comes = record {
    within = comes.within;
    follows = subst (λ s. Lists (NextFrom a s k) (get_or new to [])) (sym (old_set p left)) comes.follows;
    early = subst (λ w. IsUpTo (get_or words' to []) (w ++ k ∷ [])) (sym (old_word p left)) (elim comes.early [
      | inl old ↦ inr (subst (λ w. IsBefore w (here ++ k ∷ [])) (sym (old_word to old)) (old_before to k old))
      | inr (m, below, at, upto) ↦
          subst (λ w. IsUpTo w (here ++ k ∷ [])) (sym (new_word to m below at)) (elim (cases_lt (get_or letters m 0) k) [
            | inl earlier ↦ inr (before_last here (get_or letters m 0) k earlier)
            | inr not_earlier ↦ let same : get_or letters m 0 ≡ k = omega arith in inl (ap (λ j. here ++ j ∷ []) same)
          ])
    ]);
  }

  -- a letter after those by which sets were found leads past the words of all sets
  pub past_all : (k : ℕ) → All (λ found. found < k) letters → (j : ℕ) → j < length new → IsBefore (get_or words' j []) (get_or words' p [] ++ k ∷ [])
  past_all k ahead j within = subst (λ w. IsBefore (get_or words' j []) (w ++ k ∷ [])) (sym (old_word p left)) (elim (which j within) [
    | inl old ↦ subst (λ w. IsBefore w (here ++ k ∷ [])) (sym (old_word j old)) (old_before j k old)
    | inr (m, below, at) ↦
        subst (λ w. IsBefore w (here ++ k ∷ [])) (sym (new_word j m below at)) (before_last here (get_or letters m 0) k (ahead m 0 below))
  ])

module _ (a : Automaton) (over : List Bool) (sets words : List (List ℕ)) (p : ℕ) (is : AreFound a over sets words p) where
  -- the states of a set are states
  pub found_within : IsAutomaton a → (i : ℕ) → i < length sets → All (λ q. q < states a) (get_or sets i [])
  found_within ok i below = reached_within a ok (get_or sets i []) (get_or words i []) (is.reached i below)

  -- the first of the words are apart, each two of them
  pub found_sets : (n : ℕ) → n ≤ length sets → AreDistinct sets → ReachSets a over n
  found_sets n few distinct =
      let len : length (take n words) ≡ n = length-take-le n words (let each = is.each in omega arith) in
      record {
        words = take n words;
        count = len;
        letters = All-from_get_or (IsOver over) (take n words) [] (λ i below.
            let i_in : i < n = omega arith in subst (IsOver over) (sym (get_or-take n words i [] i_in)) (is.read i (omega arith)));
        apart = λ i j e before within.
            let i_in : i < length (take n words) = omega arith in
            let i_few : i < n = omega arith in
            let j_few : j < n = omega arith in
            let told = apart_lists (ReachedBy a (get_or words i [])) (ReachedBy a (get_or words j [])) (get_or sets i []) (get_or sets j [])
            (is.reached i (omega arith)) (is.reached j (omega arith)) (distinct i j before (omega arith)) in
            subst (λ w. AreApart a w (get_or (take n words) j e)) (get_or_default (take n words) i [] e i_in)
            (subst (λ w. AreApart a (get_or (take n words) i []) w) (get_or_default (take n words) j [] e within)
            (subst (λ w. AreApart a w (get_or (take n words) j [])) (sym (get_or-take n words i [] i_few))
            (subst (λ w. AreApart a (get_or words i []) w) (sym (get_or-take n words j [] j_few)) told)));
      }

  pub found_sets_words : (n : ℕ) (few : n ≤ length sets) (distinct : AreDistinct sets) → (found_sets n few distinct).words ≡ take n words
  unfolding found_sets
  found_sets_words n few distinct = refl
