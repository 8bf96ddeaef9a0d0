-- Where a word has led: to a set that has been found, to no state, or past the words of all sets.
use Rattle.std.proofs.Common.{◌≡◌, ℕ, ◌<◌, ◌⊎◌, List, [], ◌∷◌, ◌++◌, length, get_or, sym, subst, inl, inr, arith}
use Rattle.std.proofs.lemmas.Bool.{cases_eq, cases_lt}
use Rattle.std.proofs.lemmas.List.{append-nil, append_assoc}
use Rattle.rela_names.specs.Shortlex.{IsBefore}
use Rattle.rela_letter_nfa.specs.LetterAutomaton.{LetterAutomaton}
use Rattle.rela_letter_nfa.specs.Searching.{Goes, IsSearched, IsTaken, IsUpTo}
use Rattle.rela_letter_nfa.specs.Sets.{LeadsFrom, Lists, NextFrom}
use Rattle.rela_letter_nfa.specs.declared.arrival.Arrival.{Arrival}
use Rattle.rela_letter_nfa.proofs.LastLetters.{before_irreflexive, before_transitive, before_upto, not_both, shorter_before, upto_before, upto_push, upto_transitive}
use Rattle.rela_letter_nfa.proofs.Members.{Contains-nil}
use Rattle.rela_letter_nfa.proofs.Reached.{lists_same, next_reached}
use Rattle.rela_letter_nfa.proofs.Searching.{all_before}

taken_or_not : (left bound i k : ℕ) → IsTaken left bound i k ⊎ ¬ IsTaken left bound i k
taken_or_not left bound i k = elim (cases_lt i left) [
  | inl less ↦ inl (inl less)
  | inr not_less ↦ elim (cases_eq i left) [
    | inl here ↦ elim (cases_lt k bound) [
      | inl below ↦ inl (inr (here, below))
      | inr above ↦ inr (λ taken. elim taken [ inl less ↦ omega (arith, less, not_less) | inr at ↦ omega (arith, at.1, above) ])
    ]
    | inr apart ↦ inr (λ taken. elim taken [ inl less ↦ omega (arith, less, not_less) | inr at ↦ apart at.0 ])
  ]
]

module _ (a : LetterAutomaton) (starts : List ℕ) (sets : List (List ℕ)) (arrivals : List Arrival) (left bound : ℕ) (is : IsSearched a starts sets arrivals left bound) where
  abbrev word : ℕ → List ℕ
  word i = get_or is.words i []

  -- the word leads to a set whose own word is not after it
  record Stands (w : List ℕ) : Type 0 where
    at : ℕ
    within : at < length sets
    reached : Lists (LeadsFrom a starts w) (get_or sets at [])
    early : IsUpTo (get_or is.words at []) w

  -- the word leads to no state
  abbrev IsDead : List ℕ → Type 0
  IsDead w = (q : ℕ) → ¬ LeadsFrom a starts w q

  -- the word is after those of all the sets, of which some has not been left by each letter
  record IsPassed (w : List ℕ) : Type 0 where
    set : ℕ
    letter : ℕ
    within : set < length sets
    other : ¬ IsTaken left bound set letter
    after : (j : ℕ) → j < length sets → IsBefore (get_or is.words j []) w

  abbrev Standing : List ℕ → Type 0
  Standing w = Stands w ⊎ (IsDead w ⊎ IsPassed w)

  goes : (w : List ℕ) (k : ℕ) (stands : Stands w) → Goes a sets is.words stands.at k → Standing (w ++ k ∷ [])
  goes w k stands where_to = elim where_to [
    | inl none ↦ inr (inl (λ q leads. none q ((next_reached a starts (get_or sets stands.at []) w k stands.reached.members q).1 leads)))
    | inr (j, j_in, follows, early) ↦ inl (record {
      at = j;
      within = j_in;
      reached = lists_same (NextFrom a (get_or sets stands.at []) k) (LeadsFrom a starts (w ++ k ∷ [])) (get_or sets j [])
          (next_reached a starts (get_or sets stands.at []) w k stands.reached.members) follows;
      early = upto_transitive (word j) (word stands.at ++ k ∷ []) (w ++ k ∷ []) early (upto_push (word stands.at) w k stands.early);
    })
  ]

  step : (w : List ℕ) (k : ℕ) → Standing w → Standing (w ++ k ∷ [])
  step w k so_far = elim so_far [
    | inl stands ↦ elim (taken_or_not left bound stands.at k) [
      | inl taken ↦ goes w k stands (is.out stands.at k stands.within taken)
      | inr other ↦ inr (inr (record {
        set = stands.at;
        letter = k;
        within = stands.within;
        other = other;
        after = λ j j_in.
            before_upto (word j) (word stands.at ++ k ∷ []) (w ++ k ∷ []) (all_before a starts sets arrivals left bound is stands.at k stands.within other j j_in)
            (upto_push (word stands.at) w k stands.early);
      }))
    ]
    | inr others ↦ elim others [
      | inl dead ↦ inr (inl (λ q leads.
          let (to, (at, among, stepped), silent) = (next_reached a starts [] w k (λ p. (λ none. absurd (Contains-nil p none), λ reach. absurd (dead p reach))) q).1 leads in
          Contains-nil at among))
      | inr passed ↦ inr (inr (record {
        set = passed.set;
        letter = passed.letter;
        within = passed.within;
        other = passed.other;
        after = λ j j_in. before_transitive (word j) w (w ++ k ∷ []) (passed.after j j_in) (shorter_before w k);
      }))
    ]
  ]

  steps : (later before : List ℕ) → Standing before → Standing (before ++ later)
  steps [] before so_far = subst Standing (sym (append-nil before)) so_far
  steps (k ∷ later) before so_far = subst Standing (append_assoc before (k ∷ []) later) (steps later (before ++ k ∷ []) (step before k so_far))

  standing : (w : List ℕ) → Standing w
  standing w =
      let some : 0 < length sets = omega (arith, is.one_each) in
      steps w [] (inl (record {
        at = 0;
        within = some;
        reached = subst (λ v. Lists (LeadsFrom a starts v) (get_or sets 0 [])) is.traced.first (is.reached 0 some);
        early = inl is.traced.first;
      }))

  -- a set whose word is before that of another has the smaller number
  in_order : (i number : ℕ) → i < length sets → IsBefore (get_or is.words i []) (get_or is.words number []) → i < number
  in_order i number within before = elim (cases_lt i number) [
    | inl below ↦ below
    | inr above ↦ elim (cases_lt number i) [
      | inl later ↦ absurd (not_both (word number) (word i) (is.ascending number i later within) before)
      | inr not_later ↦
          let same : number ≡ i = omega (arith, above, not_later) in
          absurd (before_irreflexive (word i) (subst (λ n. IsBefore (word i) (word n)) same before))
    ]
  ]

  -- no state, or the set of a number below n
  abbrev pub LeadsBelow : ℕ → List ℕ → Type 0
  LeadsBelow n w = ((j : ℕ) × (j < n) × (j < length sets) × Lists (LeadsFrom a starts w) (get_or sets j [])) ⊎ ((q : ℕ) → ¬ LeadsFrom a starts w q)

  -- where a word leads that is before that of a set
  pub leads_before : (number : ℕ) → number < length sets → (w : List ℕ) → IsBefore w (get_or is.words number []) → LeadsBelow number w
  leads_before number within w before = elim (standing w) [
    | inl stands ↦ inl (stands.at, in_order stands.at number stands.within (upto_before (word stands.at) w (word number) stands.early before), stands.within, stands.reached)
    | inr others ↦ elim others [
      | inl dead ↦ inr dead
      | inr passed ↦ absurd (not_both w (word number) before (passed.after number within))
    ]
  ]

  -- where each word leads, when all sets have been left
  pub leads_all : left ≡ length sets → (w : List ℕ) → LeadsBelow (length sets) w
  leads_all all w = elim (standing w) [
    | inl stands ↦ inl (stands.at, stands.within, stands.within, stands.reached)
    | inr others ↦ elim others [
      | inl dead ↦ inr dead
      | inr passed ↦ absurd (passed.other (inl (omega (arith, passed.within, all))))
    ]
  ]
