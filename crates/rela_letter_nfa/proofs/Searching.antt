-- The search through the sets that words reach, by one letter more.
use Rattle.std.proofs.Common.{◌≡◌, ℕ, ◌+◌, ◌-◌, ◌<◌, ◌≤◌, ◌⊎◌, List, [], ◌∷◌, ◌++◌, length, get_or, refl, sym, ap, ◌∙◌, subst, inl, inr, arith}
use Rattle.std.proofs.lemmas.Bool.{cases_eq, cases_lt}
use Rattle.std.proofs.lemmas.List.{get_or_append_left, get_or_push, length_push}
use Rattle.rela_names.specs.Shortlex.{IsBefore}
use Rattle.rela_letter_nfa.specs.LetterAutomaton.{LetterAutomaton}
use Rattle.rela_letter_nfa.specs.Searching.{AreUnwanted, Goes, IsLastWanted, IsSearched, IsTaken}
use Rattle.rela_letter_nfa.specs.Sets.{LeadsFrom, Lists, NextFrom, StepFrom}
use Rattle.rela_letter_nfa.specs.declared.arrival.Arrival.{Arrival}
use Rattle.rela_letter_nfa.proofs.LastLetters.{before_last, before_push, nil_before}
use Rattle.rela_letter_nfa.proofs.Reached.{lists_same, next_reached}

-- the first set alone
pub searched_start : (a : LetterAutomaton) (starts first : List ℕ) (sets : List (List ℕ)) (arrivals : List Arrival) → sets ≡ first ∷ [] → arrivals ≡ [] → Lists (LeadsFrom a starts []) first
    → IsSearched a starts sets arrivals 0 0
searched_start a starts first sets arrivals one none is = subst (λ all. IsSearched a starts all arrivals 0 0) (sym one) (subst (λ all. IsSearched a starts (first ∷ []) all 0 0) (sym none) (record {
  words = [] ∷ [];
  each = refl;
  one_each = refl;
  traced = record {
    first = refl;
    earlier = λ i e below. absurd (omega (arith, below));
    spelled = λ i e below. absurd (omega (arith, below));
  };
  taken = λ i e below. absurd (omega (arith, below));
  reached = λ i below. let zero' : 0 ≡ i = omega (arith, below) in subst (λ n. Lists (LeadsFrom a starts (get_or ([] ∷ []) n [])) (get_or (first ∷ []) n [])) zero' is;
  ascending = λ i j before below. absurd (omega (arith, before, below));
  out = λ i k below taken. absurd (elim taken [ inl less ↦ omega (arith, less) | inr here ↦ omega (arith, here.1) ]);
}))

module _ (a : LetterAutomaton) (starts : List ℕ) (sets : List (List ℕ)) (arrivals : List Arrival) (left bound : ℕ) (is : IsSearched a starts sets arrivals left bound) where
  abbrev word : ℕ → List ℕ
  word i = get_or is.words i []

  abbrev set_at : ℕ → List ℕ
  set_at i = get_or sets i []

  -- a letter that was taken comes before one that wasn't
  order : (p l i k : ℕ) → IsTaken left bound p l → ¬ IsTaken left bound i k → (p < i) ⊎ ((p ≡ i) × (l < k))
  order p l i k taken other = elim (cases_lt i left) [
    | inl less ↦ absurd (other (inl less))
    | inr not_less ↦ elim taken [
      | inl before ↦ inl (omega (arith, before, not_less))
      | inr (here, below) ↦ elim (cases_lt left i) [
        | inl more ↦ inl (omega (arith, here, more))
        | inr not_more ↦
            let same : i ≡ left = omega (arith, not_less, not_more) in
            elim (cases_lt l k) [
              | inl less ↦ inr (here ∙ sym same, less)
              | inr not_below ↦ absurd (other (inr (same, omega (arith, below, not_below))))
            ]
      ]
    ]
  ]

  -- all words are before that of a set with a letter that hasn't been taken
  pub all_before : (i k : ℕ) → i < length sets → ¬ IsTaken left bound i k → (j : ℕ) → j < length sets → IsBefore (get_or is.words j []) (get_or is.words i [] ++ k ∷ [])
  all_before i k within other j below = elim (cases_eq j 0) [
    | inl first ↦ subst (λ w. IsBefore w (word i ++ k ∷ [])) (sym (ap (λ n. get_or is.words n []) first ∙ is.traced.first)) (nil_before (word i) k)
    | inr later ↦
        let m : ℕ = j - 1 in
        let at : m + 1 ≡ j = omega (arith, later) in
        let m_in : m < length arrivals = omega (arith, below, later, is.one_each) in
        let d : Arrival = record { from = 0; letter = 0 } in
        let e : Arrival = get_or arrivals m d in
        let spelled : word j ≡ word e.from ++ e.letter ∷ [] = ap (λ n. get_or is.words n []) (sym at) ∙ is.traced.spelled m d m_in in
        subst (λ w. IsBefore w (word i ++ k ∷ [])) (sym spelled) (elim (order e.from e.letter i k (is.taken m d m_in) other) [
          | inl before ↦ before_push (word e.from) (word i) e.letter k (is.ascending e.from i before within)
          | inr (same, less) ↦ subst (λ n. IsBefore (word n ++ e.letter ∷ []) (word i ++ k ∷ [])) (sym same) (before_last (word i) e.letter k less)
        ])
  ]

  -- the set is left
  pub searched_turn : ((l q : ℕ) → bound ≤ l → ¬ StepFrom a (get_or sets left []) l q) → IsSearched a starts sets arrivals (left + 1) 0
  searched_turn none = record {
    words = is.words;
    each = is.each;
    one_each = is.one_each;
    traced = is.traced;
    taken = λ i e below. elim (is.taken i e below) [ inl before ↦ inl (omega (arith, before)) | inr here ↦ inl (omega (arith, here.0)) ];
    reached = is.reached;
    ascending = is.ascending;
    out = λ i k within taken. elim taken [
      | inl before ↦ elim (cases_lt i left) [
        | inl earlier ↦ is.out i k within (inl earlier)
        | inr not_earlier ↦
            let same : i ≡ left = omega (arith, before, not_earlier) in
            elim (cases_lt k bound) [
              | inl below ↦ is.out i k within (inr (same, below))
              | inr above ↦ inl (λ q (p, step, silent). none k p above (subst (λ n. StepFrom a (get_or sets n []) k p) same step))
            ]
      ]
      | inr here ↦ absurd (omega (arith, here.1))
    ];
  }

  -- a letter is taken, and none before it that hasn't been leads anywhere
  module _ (k : ℕ) (within : left < length sets) (above : bound ≤ k) (skipped : (l q : ℕ) → bound ≤ l → l < k → ¬ StepFrom a (get_or sets left []) l q) where
    not_taken : ¬ IsTaken left bound left k
    not_taken taken = elim taken [ inl less ↦ omega (arith, less) | inr here ↦ omega (arith, above, here.1) ]

    still_taken : (p l : ℕ) → IsTaken left bound p l → IsTaken left (k + 1) p l
    still_taken p l taken = elim taken [ inl less ↦ inl less | inr here ↦ inr (here.0, omega (arith, above, here.1)) ]

    -- where the letters lead that were taken, the last one too
    out_more : (new words : List (List ℕ)) → ((i l : ℕ) → i < length sets → Goes a sets is.words i l → Goes a new words i l) → get_or new left [] ≡ get_or sets left [] → Goes a new words left k
        → (i l : ℕ) → i < length sets → IsTaken left (k + 1) i l → Goes a new words i l
    out_more new words lift kept last i l i_in taken = elim taken [
      | inl less ↦ lift i l i_in (is.out i l i_in (inl less))
      | inr (here, below) ↦ elim (cases_lt l bound) [
        | inl old ↦ lift i l i_in (is.out i l i_in (inr (here, old)))
        | inr not_old ↦ elim (cases_lt l k) [
          | inl skip ↦ subst (λ n. Goes a new words n l) (sym here) (inl (λ q (p, step, silent). skipped l p not_old skip (subst (λ s. StepFrom a s l p) kept step)))
          | inr not_skip ↦
              let same : k ≡ l = omega (arith, below, not_skip) in
              subst (λ n. Goes a new words n l) (sym here) (subst (λ m. Goes a new words left m) same last)
        ]
      ]
    ]

    -- it leads to a set that has been found
    pub searched_old : (to : ℕ) → to < length sets → Lists (NextFrom a (get_or sets left []) k) (get_or sets to []) → IsSearched a starts sets arrivals left (k + 1)
    searched_old to to_in follows = record {
      words = is.words;
      each = is.each;
      one_each = is.one_each;
      traced = is.traced;
      taken = λ i e below. still_taken (get_or arrivals i e).from (get_or arrivals i e).letter (is.taken i e below);
      reached = is.reached;
      ascending = is.ascending;
      out = out_more sets is.words (λ i l i_in goes. goes) refl (inr (to, to_in, follows, inr (all_before left k within not_taken to to_in)));
    }

    -- it leads to a new one
    module _ (set : List ℕ) (new : List (List ℕ)) (after : List Arrival) (grown : new ≡ sets ++ set ∷ []) (put : after ≡ arrivals ++ record { from = left; letter = k } ∷ [])
        (follows : Lists (NextFrom a (get_or sets left []) k) set) where
      abbrev last_word : List ℕ
      last_word = word left ++ k ∷ []

      abbrev words' : List (List ℕ)
      words' = is.words ++ last_word ∷ []

      abbrev arrival : Arrival
      arrival = record { from = left; letter = k }

      new_length : length new ≡ length sets + 1
      new_length = ap length grown ∙ length_push sets set

      after_length : length after ≡ length arrivals + 1
      after_length = ap length put ∙ length_push arrivals arrival

      old_set : (i : ℕ) → i < length sets → get_or new i [] ≡ get_or sets i []
      old_set i below = ap (λ l. get_or l i []) grown ∙ get_or_append_left sets (set ∷ []) [] i below

      last_set : (i : ℕ) → i ≡ length sets → get_or new i [] ≡ set
      last_set i at = ap (λ l. get_or l i []) grown ∙ get_or_push sets set [] i (sym at)

      old_word : (i : ℕ) → i < length sets → get_or words' i [] ≡ get_or is.words i []
      old_word i below = get_or_append_left is.words (last_word ∷ []) [] i (omega (arith, below, is.each))

      new_word : (i : ℕ) → i ≡ length sets → get_or words' i [] ≡ last_word
      new_word i at = get_or_push is.words last_word [] i (is.each ∙ sym at)

      old_arrival : (i : ℕ) (e : Arrival) → i < length arrivals → get_or after i e ≡ get_or arrivals i e
      old_arrival i e below = ap (λ l. get_or l i e) put ∙ get_or_append_left arrivals (arrival ∷ []) e i below

      new_arrival : (i : ℕ) (e : Arrival) → i ≡ length arrivals → get_or after i e ≡ arrival
      new_arrival i e at = ap (λ l. get_or l i e) put ∙ get_or_push arrivals arrival e i (sym at)

      lifted : (i l : ℕ) → i < length sets → Goes a sets is.words i l → Goes a new words' i l
      lifted i l i_in goes = elim goes [
        | inl none ↦ inl (λ q next. none q (subst (λ s. NextFrom a s l q) (old_set i i_in) next))
        | inr (j, j_in, leads, early) ↦ inr (
          j,
          omega (arith, j_in, new_length),
          subst (λ s. Lists (NextFrom a s l) (get_or new j [])) (sym (old_set i i_in)) (subst (λ s. Lists (NextFrom a (set_at i) l) s) (sym (old_set j j_in)) leads),
          elim early [
            | inl same ↦ inl (old_word j j_in ∙ same ∙ ap (λ w. w ++ l ∷ []) (sym (old_word i i_in)))
            | inr before ↦ inr (subst (λ w. IsBefore w (get_or words' i [] ++ l ∷ [])) (sym (old_word j j_in))
                (subst (λ w. IsBefore (word j) (w ++ l ∷ [])) (sym (old_word i i_in)) before))
          ],
        )
      ]

      leads_last : Goes a new words' left k
      leads_last = inr (
        length sets,
        omega (arith, new_length),
        subst (λ s. Lists (NextFrom a s k) (get_or new (length sets) [])) (sym (old_set left within)) (subst (λ s. Lists (NextFrom a (set_at left) k) s) (sym (last_set (length sets) refl)) follows),
        inl (new_word (length sets) refl ∙ ap (λ w. w ++ k ∷ []) (sym (old_word left within))),
      )

      pub searched_new : IsSearched a starts new after left (k + 1)
      searched_new = record {
        words = words';
        each = length_push is.words last_word ∙ omega (arith, is.each, new_length);
        one_each = omega (arith, new_length, after_length, is.one_each);
        traced = record {
          first = old_word 0 (omega (arith, within)) ∙ is.traced.first;
          earlier = λ i e below. elim (cases_lt i (length arrivals)) [
            | inl old ↦ subst (λ x. x.from ≤ i) (sym (old_arrival i e old)) (is.traced.earlier i e old)
            | inr not_old ↦
                subst (λ x. x.from ≤ i) (sym (new_arrival i e (omega (arith, below, not_old, after_length)))) (omega (arith, within, not_old, is.one_each))
          ];
          spelled = λ i e below. elim (cases_lt i (length arrivals)) [
            | inl old ↦
                let earlier = is.traced.earlier i e old in
                subst (λ x. get_or words' (i + 1) [] ≡ get_or words' x.from [] ++ x.letter ∷ []) (sym (old_arrival i e old))
                (old_word (i + 1) (omega (arith, old, is.one_each)) ∙ is.traced.spelled i e old
                ∙ ap (λ w. w ++ (get_or arrivals i e).letter ∷ []) (sym (old_word (get_or arrivals i e).from (omega (arith, old, earlier, is.one_each)))))
            | inr not_old ↦
                subst (λ x. get_or words' (i + 1) [] ≡ get_or words' x.from [] ++ x.letter ∷ []) (sym (new_arrival i e (omega (arith, below, not_old, after_length))))
                (new_word (i + 1) (omega (arith, below, not_old, after_length, is.one_each)) ∙ ap (λ w. w ++ k ∷ []) (sym (old_word left within)))
          ];
        };
        taken = λ i e below. elim (cases_lt i (length arrivals)) [
          | inl old ↦ subst (λ x. IsTaken left (k + 1) x.from x.letter) (sym (old_arrival i e old)) (still_taken (get_or arrivals i e).from (get_or arrivals i e).letter (is.taken i e old))
          | inr not_old ↦
              subst (λ x. IsTaken left (k + 1) x.from x.letter) (sym (new_arrival i e (omega (arith, below, not_old, after_length)))) (inr (refl, omega arith))
        ];
        reached = λ i below. elim (cases_lt i (length sets)) [
          | inl old ↦
              subst (λ w. Lists (LeadsFrom a starts w) (get_or new i [])) (sym (old_word i old))
              (subst (λ s. Lists (LeadsFrom a starts (word i)) s) (sym (old_set i old)) (is.reached i old))
          | inr not_old ↦
              let at : i ≡ length sets = omega (arith, below, not_old, new_length) in
              subst (λ w. Lists (LeadsFrom a starts w) (get_or new i [])) (sym (new_word i at))
              (subst (λ s. Lists (LeadsFrom a starts last_word) s) (sym (last_set i at))
              (lists_same (NextFrom a (set_at left) k) (LeadsFrom a starts last_word) set (next_reached a starts (set_at left) (word left) k (is.reached left within).members) follows))
        ];
        ascending = λ i j before below. elim (cases_lt j (length sets)) [
          | inl old ↦
              subst (λ w. IsBefore w (get_or words' j [])) (sym (old_word i (omega (arith, before, old))))
              (subst (λ w. IsBefore (word i) w) (sym (old_word j old)) (is.ascending i j before old))
          | inr not_old ↦
              let at : j ≡ length sets = omega (arith, below, not_old, new_length) in
              let i_in : i < length sets = omega (arith, before, at) in
              subst (λ w. IsBefore w (get_or words' j [])) (sym (old_word i i_in))
              (subst (λ w. IsBefore (word i) w) (sym (new_word j at)) (all_before left k within not_taken i i_in))
        ];
        out = λ i l below taken. elim (cases_lt i (length sets)) [
          | inl old ↦ out_more new words' lifted (old_set left within) leads_last i l old taken
          | inr not_old ↦ absurd (elim taken [ inl less ↦ omega (arith, less, not_old, within) | inr here ↦ omega (arith, here.0, not_old, within) ])
        ];
      }

-- a set that isn't wanted comes to others
pub unwanted_more : (P : List ℕ → Type 0) (old new : List (List ℕ)) (set : List ℕ) → new ≡ old ++ set ∷ [] → AreUnwanted P old → ¬ P set → AreUnwanted P new
unwanted_more P old new set grown unwanted other i below = elim (cases_lt i (length old)) [
  | inl before ↦ λ has_it. unwanted i before (subst P (ap (λ l. get_or l i []) grown ∙ get_or_append_left old (set ∷ []) [] i before) has_it)
  | inr not_before ↦ λ has_it.
      let at : i ≡ length old = omega (arith, below, not_before, ap length grown, length_push old set) in
      other (subst P (ap (λ l. get_or l i []) grown ∙ get_or_push old set [] i (sym at)) has_it)
]

-- one that is comes to others
pub wanted_last : (P : List ℕ → Type 0) (old new : List (List ℕ)) (set : List ℕ) → new ≡ old ++ set ∷ [] → AreUnwanted P old → P set → IsLastWanted P new
wanted_last P old new set grown unwanted here =
    let count : length new ≡ length old + 1 = ap length grown ∙ length_push old set in
    record {
      some = omega (arith, count);
      here = subst P (sym (ap (λ l. get_or l (length new - 1) []) grown ∙ get_or_push old set [] (length new - 1) (omega (arith, count)))) here;
      before = λ i below has_it.
          let before : i < length old = omega (arith, below, count) in
          unwanted i before (subst P (ap (λ l. get_or l i []) grown ∙ get_or_append_left old (set ∷ []) [] i before) has_it);
    }
