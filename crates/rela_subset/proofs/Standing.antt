-- Where a word has led: to a set that has been found, or past all of their words.
use Rattle.std.proofs.Common.{◌≡◌, ℕ, ◌<◌, ◌≤◌, ◌⊎◌, Bool, true, false, List, [], ◌∷◌, ◌++◌, length, get_or, take, sym, ap, ◌∙◌, subst, inl, inr, arith}
use Rattle.std.specs.List.{All}
use Rattle.std.proofs.lemmas.Bool.{cases_eq, cases_lt, false≢true}
use Rattle.std.proofs.lemmas.List.{append-nil, append_assoc, get_or-take, length-take-le, length_push}
use Rattle.std.proofs.lemmas.List.Elements.{All-from_get_or, All-head, All-tail}
use Rattle.rela_labels.specs.Letters.{has}
use Rattle.rela_names.specs.Shortlex.{First, IsBefore}
use Rattle.rela_nfa.specs.Automaton.{Automaton}
use Rattle.rela_nfa.specs.StateSet.{Lists}
use Rattle.rela_subset.specs.Deterministic.{IsOver}
use Rattle.rela_subset.specs.Expansion.{AreFound, Arrives, IsUpTo}
use Rattle.rela_subset.specs.Searching.{AreUnwanted, IsFirstAt, LeadsPast}
use Rattle.rela_subset.specs.Sets.{AreDistinct, ReachedBy}
use Rattle.rela_subset.specs.Subsets.{IsUnwantedWord, IsWantedWord, ReachSetsBefore}
use Rattle.rela_subset.proofs.Ascending.{same_lists}
use Rattle.rela_subset.proofs.Finding.{found_sets, found_sets_words}
use Rattle.rela_subset.proofs.LastLetters.{IsOrder, before_push, before_upto, nil_before, upto_before, upto_push, upto_transitive}
use Rattle.rela_subset.proofs.Reached.{reached_next}

module _ (order : IsOrder) (a : Automaton) (over rest : List Bool) (sets words : List (List ℕ)) (left : ℕ) (is : AreFound a over sets words left)
    (out : (i letter : ℕ) → i < left → has over letter ≡ true → ((to : ℕ) × Arrives a sets words i letter to) ⊎ ((has rest letter ≡ true) × LeadsPast sets words i letter)) where
  not_both : (u v : List ℕ) → IsBefore u v → ¬ IsBefore v u
  not_both u v before after = order.irreflexive u (order.transitive u v u before after)

  -- the word leads to a set whose own word is not after it
  record Stands (word : List ℕ) : Type 0 where
    at : ℕ
    within : at < length sets
    reached : Lists (ReachedBy a word) (get_or sets at [])
    early : IsUpTo (get_or words at []) word

  -- the word is after those of all the sets, of which some has not been left by each letter
  record IsPast (word : List ℕ) : Type 0 where
    some : (left < length sets) ⊎ ((k : ℕ) × (has rest k ≡ true))
    after : (j : ℕ) → j < length sets → IsBefore (get_or words j []) word

  -- each word is before the one of a set that has not been left with a letter more
  before_next : (i j k : ℕ) → left ≤ i → i < length sets → j < length sets → IsBefore (get_or words j []) (get_or words i [] ++ k ∷ [])
  before_next i j k not_left within below = elim (cases_eq j 0) [
    | inl first ↦ subst (λ w. IsBefore w (get_or words i [] ++ k ∷ [])) (sym (ap (λ n. get_or words n []) first ∙ is.first)) (nil_before (get_or words i []) k)
    | inr later ↦
        let (p, letter, earlier, spelled) = is.grown j (omega arith) below in
        subst (λ w. IsBefore w (get_or words i [] ++ k ∷ [])) (sym spelled)
        (before_push (get_or words p []) (get_or words i []) letter k (is.ascending p i (omega arith) within))
  ]

  -- what is before the word of a set with a letter more is before each word that leads there with that letter
  past_by : (i j k : ℕ) (word : List ℕ) → IsUpTo (get_or words i []) word → IsBefore (get_or words j []) (get_or words i [] ++ k ∷ []) → IsBefore (get_or words j []) (word ++ k ∷ [])
  past_by i j k word early before =
      before_upto order.transitive (get_or words j []) (get_or words i [] ++ k ∷ []) (word ++ k ∷ []) before (upto_push (get_or words i []) word k early)

  step : (word : List ℕ) (k : ℕ) → has over k ≡ true → Stands word ⊎ IsPast word → Stands (word ++ k ∷ []) ⊎ IsPast (word ++ k ∷ [])
  step word k read so_far = elim so_far [
    | inl stands ↦ elim (cases_lt stands.at left) [
      | inl was_left ↦ elim (out stands.at k was_left read) [
        | inl (to, arrives) ↦ inl (record {
          at = to;
          within = arrives.within;
          reached = reached_next a (get_or sets stands.at []) (get_or sets to []) k word stands.reached arrives.follows;
          early = upto_transitive order.transitive (get_or words to []) (get_or words stands.at [] ++ k ∷ []) (word ++ k ∷ []) arrives.early (upto_push (get_or words stands.at []) word k stands.early);
        })
        | inr (in_rest, past) ↦ inr (record {
          some = inr (k, in_rest);
          after = λ j within. past_by stands.at j k word stands.early (past j within);
        })
      ]
      | inr not_left ↦
          let below = stands.within in
          inr (record {
            some = inl (omega arith);
            after = λ j within. past_by stands.at j k word stands.early (before_next stands.at j k not_left stands.within within);
          })
    ]
    | inr past ↦ inr (record {
      some = past.some;
      after = λ j within. order.transitive (get_or words j []) word (word ++ k ∷ []) (past.after j within) (inl (omega (arith, length_push word k)));
    })
  ]

  steps : (word before : List ℕ) → IsOver over word → Stands before ⊎ IsPast before → Stands (before ++ word) ⊎ IsPast (before ++ word)
  steps [] before read so_far = subst (λ w. Stands w ⊎ IsPast w) (sym (append-nil before)) so_far
  steps (k ∷ word) before read so_far =
      subst (λ w. Stands w ⊎ IsPast w) (append_assoc before (k ∷ []) word)
      (steps word (before ++ k ∷ []) (All-tail (λ j. has over j ≡ true) k word read) (step before k (All-head (λ j. has over j ≡ true) k word read) so_far))

  standing : (word : List ℕ) → IsOver over word → Stands word ⊎ IsPast word
  standing word read = steps word [] read (inl (record {
    at = 0;
    within = is.some;
    reached = subst (λ w. Lists (ReachedBy a w) (get_or sets 0 [])) is.first (is.reached 0 is.some);
    early = inl is.first;
  }))

  module _ (P : List ℕ → Type 0) where
    -- a set whose word is before that of another has the smaller number
    in_order : (i number : ℕ) → i < length sets → IsBefore (get_or words i []) (get_or words number []) → i < number
    in_order i number within before = elim (cases_lt i number) [
      | inl below ↦ below
      | inr above ↦ elim (cases_lt number i) [
        | inl later ↦ absurd (not_both (get_or words number []) (get_or words i []) (is.ascending number i later within) before)
        | inr not_later ↦
            let same : number ≡ i = omega arith in
            absurd (order.irreflexive (get_or words i []) (subst (λ n. IsBefore (get_or words i []) (get_or words n [])) same before))
      ]
    ]

    pub before_first : (number : ℕ) → IsFirstAt P sets number → (v : List ℕ) → IsOver over v → IsBefore v (get_or words number []) → IsUnwantedWord a P v
    before_first number first v read before = elim (standing v read) [
      | inl stands ↦
          let earlier = in_order stands.at number stands.within (upto_before order.transitive (get_or words stands.at []) v (get_or words number []) stands.early before) in
          (get_or sets stands.at [], stands.reached, first.before stands.at earlier)
      | inr past ↦ absurd (not_both v (get_or words number []) before (past.after number first.within))
    ]

    pub is_first : (number : ℕ) → IsFirstAt P sets number → First (IsWantedWord a over P) (get_or words number [])
    is_first number first = record {
      member = (is.read number first.within, (get_or sets number [], is.reached number first.within, first.here));
      least = λ u wanted before.
          let (other, others, lacks) = before_first number first u wanted.0 before in
          lacks (subst P (same_lists (ReachedBy a u) (ReachedBy a u) wanted.1.0 other wanted.1.1 others (λ q. (λ r. r, λ r. r))) wanted.1.2);
    }

    pub none_first : length sets ≤ left → ((k : ℕ) → has rest k ≡ false) → AreUnwanted P sets → (v : List ℕ) → IsOver over v → IsUnwantedWord a P v
    none_first all none unwanted v read = elim (standing v read) [
      | inl stands ↦ (get_or sets stands.at [], stands.reached, unwanted stands.at stands.within)
      | inr past ↦ absurd (elim past.some [ inl some ↦ omega arith | inr (k, in_rest) ↦ false≢true (sym (none k) ∙ in_rest) ])
    ]

    pub sets_before : (n : ℕ) → n ≤ length sets → AreDistinct sets → AreUnwanted P sets → ReachSetsBefore a over P n
    sets_before n few distinct unwanted =
        let len : length (take n words) ≡ n = length-take-le n words (let each = is.each in omega arith) in
        let Q : List ℕ → Type 0 = λ w. (v : List ℕ) → IsOver over v → IsBefore v w → IsUnwantedWord a P v in
        record {
          sets = found_sets a over sets words left is n few distinct;
          early = subst (All Q) (sym (found_sets_words a over sets words left is n few distinct)) (All-from_get_or Q (take n words) [] (λ j below v read before_taken.
              let j_in : j < n = omega arith in
              let before : IsBefore v (get_or words j []) = subst (IsBefore v) (get_or-take n words j [] j_in) before_taken in
              elim (standing v read) [
                | inl stands ↦ (get_or sets stands.at [], stands.reached, unwanted stands.at stands.within)
                | inr past ↦ absurd (not_both v (get_or words j []) before (past.after j (omega arith)))
              ]));
        }
