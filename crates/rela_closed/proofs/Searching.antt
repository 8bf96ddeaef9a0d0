-- The search for the first words, one letter after the other.
use Rattle.std.proofs.Common.{◌≡◌, ℕ, ◌+◌, ◌<◌, ◌≤◌, Bool, true, List, [], ◌∷◌, ◌++◌, length, get_or, refl, sym, ap, ◌∙◌, subst, inl, inr, arith}
use Rattle.std.specs.List.{AllPairs}
use Rattle.std.proofs.lemmas.Bool.{cases_lt}
use Rattle.std.proofs.lemmas.List.{get_or_append_left, get_or_push, length_push, get_or_default}
use Rattle.std.proofs.lemmas.List.Elements.{All-cons, All-get_or, All-nil, All-push}
use Rattle.rela_labels.specs.Letters.{has}
use Rattle.rela_names.specs.Shortlex.{IsBefore}
use Rattle.rela_nfa.specs.Automaton.{Automaton}
use Rattle.rela_closed.specs.Closed.{AreApart, ReachSets}
use Rattle.rela_build.specs.Complement.{IsOver}
use Rattle.rela_closed.specs.Listing.{IsLed, IsSearched}
use Rattle.rela_closed.specs.Sets.{AreDistinct, AreNumbered, AreReached, Leads}
use Rattle.rela_closed.specs.Splitting.{LeadAlike}
use Rattle.rela_closed.specs.Words.{IsUpTo, words_of}
use Rattle.rela_closed.specs.declared.step.Step.{Step}
use Rattle.rela_closed.proofs.JointSets.{sets_apart}
use Rattle.rela_closed.proofs.LastLetters.{IsTransitive, before_last, before_push, nil_before, upto_transitive}
use Rattle.rela_closed.proofs.Listed.{table_kept}
use Rattle.rela_closed.proofs.WordLists.{word_by, words_of_push}

first_alone : (first : List (List ℕ)) (old table : List (List (List ℕ))) (n : ℕ) → old ≡ [] → AreNumbered first old table n → table ≡ first ∷ []
first_alone first old table n none numbered = elim numbered.grown [
  | inl known ↦ let empty = ap length none in let below = known.1 in absurd (omega arith)
  | inr new ↦ new.0 ∙ ap (λ (l : List (List (List ℕ))). l ++ first ∷ []) none
]

module _ (transitive : IsTransitive) (over : List Bool) (automata : List Automaton) where
  -- the empty word alone
  pub search_start : (first : List (List ℕ)) (old table : List (List (List ℕ))) (n : ℕ) → old ≡ [] → AreNumbered first old table n → AreReached automata [] first
      → IsSearched over automata ([] ∷ []) table 0 0
  search_start first old table n none numbered reached = subst (λ t. IsSearched over automata ([] ∷ []) t 0 0) (sym (first_alone first old table n none numbered)) (record {
    each = refl;
    some = omega arith;
    first = refl;
    read = All-cons (IsOver over) [] [] (All-nil (λ k. has over k ≡ true)) (All-nil (IsOver over));
    reached = λ i below. let here : i ≡ 0 = omega arith in
        subst (λ m. AreReached automata (get_or ([] ∷ []) m []) (get_or (first ∷ []) m [])) (sym here) reached;
    ascending = λ i j before below. absurd (omega (arith, before, below));
    ahead = λ some i below. let here : i ≡ 0 = omega arith in
        subst (λ m. IsBefore (get_or ([] ∷ []) m []) ([] ++ 0 ∷ [])) (sym here) (nil_before [] 0);
    out = λ i j below left. elim left [
      | inl less ↦ absurd (omega (arith, less))
      | inr last ↦ absurd (omega (arith, last.1))
    ];
  })

  module _ (words : List (List ℕ)) (table : List (List (List ℕ))) (p k : ℕ) (so_far : IsSearched over automata words table p k) where
    -- where the letter has been followed
    abbrev pub Goes : ℕ → ℕ → Type 0
    Goes i j = IsLed automata words table i j

    -- another letter leads alike
    pub led_alike : (j l : ℕ) → p < length words → j < k → has over j ≡ true → has over l ≡ true → LeadAlike automata (get_or table p []) j l → Goes p l
    led_alike j l p_in before j_read l_read alike = elim (cases_lt l k) [
      | inl earlier ↦ so_far.out p l p_in (inr (refl, earlier)) l_read
      | inr later ↦
          let (to, to_below, leads, upto) = so_far.out p j p_in (inr (refl, before)) j_read in
          let next : IsBefore (get_or words p [] ++ j ∷ []) (get_or words p [] ++ l ∷ []) = before_last (get_or words p []) j l (omega arith) in
          (to, to_below, alike (get_or table to []) leads, upto_transitive transitive (get_or words to []) (get_or words p [] ++ j ∷ []) (get_or words p [] ++ l ∷ []) upto (inr next))
    ]

    ahead_more : p < length words → (i : ℕ) → i < length words → IsBefore (get_or words i []) (get_or words p [] ++ (k + 1) ∷ [])
    ahead_more within i below =
        transitive (get_or words i []) (get_or words p [] ++ k ∷ []) (get_or words p [] ++ (k + 1) ∷ []) (so_far.ahead within i below)
        (before_last (get_or words p []) k (k + 1) (omega arith))

    -- the letter leads to sets that were found before, or isn't one of the letters
    pub search_old : (has over k ≡ true → Goes p k) → IsSearched over automata words table p (k + 1)
    search_old goes = record {
      each = so_far.each;
      some = so_far.some;
      first = so_far.first;
      read = so_far.read;
      reached = so_far.reached;
      ascending = so_far.ascending;
      ahead = ahead_more;
      out = λ i j below left read. elim left [
        | inl less ↦ so_far.out i j below (inl less) read
        | inr last ↦ elim (cases_lt j k) [
          | inl earlier ↦ so_far.out i j below (inr (last.0, earlier)) read
          | inr not_earlier ↦
              let at : k ≡ j = let upper = last.1 in omega arith in
              subst (λ m. Goes i m) at (subst (λ m. Goes m k) (sym last.0) (goes (subst (λ m. has over m ≡ true) (sym at) read)))
        ]
      ];
    }

    -- the next sets
    pub search_next : ((j : ℕ) → k ≤ j → has over j ≡ true → ⊥) → IsSearched over automata words table (p + 1) 0
    search_next none = record {
      each = so_far.each;
      some = so_far.some;
      first = so_far.first;
      read = so_far.read;
      reached = so_far.reached;
      ascending = so_far.ascending;
      ahead = λ within i below.
          let p_in : p < length words = omega arith in
          transitive (get_or words i []) (get_or words p [] ++ k ∷ []) (get_or words (p + 1) [] ++ 0 ∷ []) (so_far.ahead p_in i below)
          (before_push (get_or words p []) (get_or words (p + 1) []) k 0 (so_far.ascending p (p + 1) (omega arith) within));
      out = λ i j below left read. elim left [
        | inl less ↦ elim (cases_lt i p) [
          | inl earlier ↦ so_far.out i j below (inl earlier) read
          | inr not_earlier ↦
              let at : i ≡ p = omega arith in
              elim (cases_lt j k) [
                | inl lower ↦ so_far.out i j below (inr (at, lower)) read
                | inr upper ↦ absurd (none j upper read)
              ]
        ]
        | inr last ↦ absurd (let lower = last.1 in omega arith)
      ];
    }

    module _ (p_in : p < length words) (sets : List (List ℕ)) (table' : List (List (List ℕ))) (n : ℕ) (numbered : AreNumbered sets table table' n)
        (leads : Leads automata (get_or table p []) k sets) where
      -- sets that were found before
      pub search_known : n < length table → table' ≡ table → IsSearched over automata words table' p (k + 1)
      search_known known same =
          let each = so_far.each in
          subst (λ t. IsSearched over automata words t p (k + 1)) (sym same)
          (search_old (λ read. (
            n,
            (let below : n < length words = omega arith in below),
            subst (λ s. Leads automata (get_or table p []) k s) (sym numbered.at ∙ table_kept automata sets table table' n numbered n known) leads,
            inr (so_far.ahead p_in n (omega arith)),
          )))

      module _ (read : has over k ≡ true) (pushed : table' ≡ table ++ sets ∷ []) (at : n ≡ length table) where
        abbrev pub word : List ℕ
        word = get_or words p [] ++ k ∷ []

        abbrev pub words' : List (List ℕ)
        words' = words ++ word ∷ []

        len : length words' ≡ length words + 1
        len = length_push words word

        old : (i : ℕ) → i < length words → get_or words' i [] ≡ get_or words i []
        old i below = get_or_append_left words (word ∷ []) [] i below

        last : get_or words' (length words) [] ≡ word
        last = get_or_push words word [] (length words) refl

        kept : (i : ℕ) → i < length words → get_or table' i [] ≡ get_or table i []
        kept i below = table_kept automata sets table table' n numbered i (let each = so_far.each in omega arith)

        last_sets : get_or table' (length words) [] ≡ sets
        last_sets = ap (λ m. get_or table' m []) (sym (at ∙ so_far.each)) ∙ numbered.at

        -- all are before the next word
        ahead' : (i : ℕ) → i < length words' → IsBefore (get_or words' i []) (get_or words p [] ++ (k + 1) ∷ [])
        ahead' i within = elim (cases_lt i (length words)) [
          | inl below ↦ subst (λ w. IsBefore w (get_or words p [] ++ (k + 1) ∷ [])) (sym (old i below)) (ahead_more p_in i below)
          | inr not_below ↦
              let here : length words ≡ i = let l = len in omega arith in
              subst (λ m. IsBefore (get_or words' m []) (get_or words p [] ++ (k + 1) ∷ [])) here
              (subst (λ w. IsBefore w (get_or words p [] ++ (k + 1) ∷ [])) (sym last) (before_last (get_or words p []) k (k + 1) (omega arith)))
        ]

        abbrev pub Goes' : ℕ → ℕ → Type 0
        Goes' i j = IsLed automata words' table' i j

        pub keeps : (i j : ℕ) → i < length words → Goes i j → Goes' i j
        keeps i j below (to, to_below, leads, upto) = (
          to,
          (let l = len in let within : to < length words' = omega arith in within),
          subst (λ s. Leads automata s j (get_or table' to [])) (sym (kept i below)) (subst (λ s. Leads automata (get_or table i []) j s) (sym (kept to to_below)) leads),
          subst (λ w. IsUpTo w (get_or words' i [] ++ j ∷ [])) (sym (old to to_below)) (subst (λ w. IsUpTo (get_or words to []) (w ++ j ∷ [])) (sym (old i below)) upto),
        )

        goes_last : Goes' p k
        goes_last = (
          length words,
          (let l = len in let within : length words < length words' = omega arith in within),
          subst (λ s. Leads automata s k (get_or table' (length words) [])) (sym (kept p p_in)) (subst (λ s. Leads automata (get_or table p []) k s) (sym last_sets) leads),
          inl (last ∙ ap (λ w. w ++ k ∷ []) (sym (old p p_in))),
        )

        -- sets that are new
        pub search_new : IsSearched over automata words' table' p (k + 1)
        search_new =
            let l = len in
            let each = so_far.each in
            record {
              each = ap length pushed ∙ length_push table sets ∙ ap (λ m. m + 1) each ∙ sym len;
              some = omega arith;
              first = old 0 so_far.some ∙ so_far.first;
              read = All-push (IsOver over) words word so_far.read
                  (All-push (λ j. has over j ≡ true) (get_or words p []) k (All-get_or (IsOver over) words p [] p_in so_far.read) read);
              reached = λ i within. elim (cases_lt i (length words)) [
                | inl below ↦
                    subst (λ w. AreReached automata w (get_or table' i [])) (sym (old i below))
                    (subst (λ s. AreReached automata (get_or words i []) s) (sym (kept i below)) (so_far.reached i below))
                | inr not_below ↦
                    let here : length words ≡ i = omega arith in
                    subst (λ m. AreReached automata (get_or words' m []) (get_or table' m [])) here
                    (subst (λ w. AreReached automata w (get_or table' (length words) [])) (sym last)
                    (subst (λ s. AreReached automata word s) (sym last_sets) (leads (get_or words p []) (so_far.reached p p_in))))
              ];
              ascending = λ i j before within. elim (cases_lt j (length words)) [
                | inl below ↦
                    subst (λ w. IsBefore w (get_or words' j [])) (sym (old i (omega arith)))
                    (subst (λ w. IsBefore (get_or words i []) w) (sym (old j below)) (so_far.ascending i j before below))
                | inr not_below ↦
                    let here : length words ≡ j = omega arith in
                    let i_in : i < length words = omega arith in
                    subst (λ m. IsBefore (get_or words' i []) (get_or words' m [])) here
                    (subst (λ w. IsBefore w (get_or words' (length words) [])) (sym (old i i_in))
                    (subst (λ w. IsBefore (get_or words i []) w) (sym last) (so_far.ahead p_in i i_in)))
              ];
              ahead = λ within i below. subst (λ w. IsBefore (get_or words' i []) (w ++ (k + 1) ∷ [])) (sym (old p p_in)) (ahead' i below);
              out = λ i j within left in_over. elim left [
                | inl less ↦ let i_in : i < length words = omega arith in keeps i j i_in (so_far.out i j i_in (inl less) in_over)
                | inr here ↦ elim (cases_lt j k) [
                  | inl earlier ↦ let same = here.0 in let i_in : i < length words = omega arith in keeps i j i_in (so_far.out i j i_in (inr (here.0, earlier)) in_over)
                  | inr not_earlier ↦
                      let same : k ≡ j = let upper = here.1 in omega arith in
                      subst (λ m. Goes' i m) same (subst (λ m. Goes' m k) (sym here.0) goes_last)
                ]
              ];
            }

    -- each two of the words are apart
    pub words_apart : AreDistinct table → AllPairs (AreApart automata) words
    words_apart distinct i j e before within =
        let i_in : i < length words = omega arith in
        let each = so_far.each in
        subst (λ w. AreApart automata w (get_or words j e)) (get_or_default words i [] e i_in)
        (subst (λ w. AreApart automata (get_or words i []) w) (get_or_default words j [] e within)
        (sets_apart automata (get_or words i []) (get_or words j []) (get_or table i []) (get_or table j []) (so_far.reached i i_in) (so_far.reached j within) (distinct i j before (omega arith))))

    -- so many sets are reached as there are words
    pub search_sets : AreDistinct table → ReachSets over automata (length words)
    search_sets distinct = record { words = words; count = refl; letters = so_far.read; apart = words_apart distinct }

-- more sets are reached than the limit
pub search_passed : IsTransitive → (over : List Bool) (automata : List Automaton) (words : List (List ℕ)) (table : List (List (List ℕ))) (p k limit : ℕ) → IsSearched over automata words table p k
    → AreDistinct table → limit < length table → length table ≤ limit + 1 → ReachSets over automata (limit + 1)
search_passed transitive over automata words table p k limit searched distinct above upto =
    let each = searched.each in
    let len : length words ≡ limit + 1 = omega arith in
    subst (ReachSets over automata) len (search_sets transitive over automata words table p k searched distinct)

-- the word that was put in is that of a step
pub search_step : (over : List Bool) (automata : List Automaton) (steps steps' : List Step) (step : Step) (table : List (List (List ℕ))) (p k : ℕ) → steps' ≡ steps ++ step ∷ []
    → IsSearched over automata (words_of steps ++ word_by (words_of steps) step ∷ []) table p k → IsSearched over automata (words_of steps') table p k
search_step over automata steps steps' step table p k pushed searched =
    subst (λ ws. IsSearched over automata ws table p k) (sym (ap words_of pushed ∙ words_of_push steps step)) searched
