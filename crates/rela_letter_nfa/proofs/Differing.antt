-- The first word by which two automata differ, and the words that come before.
use Rattle.std.proofs.Common.{◌≡◌, ℕ, ◌+◌, ◌<◌, ◌⊎◌, ◌↔◌, List, [], length, get_or, inl, inr, arith}
use Rattle.std.proofs.lemmas.Map.Keys.{sorted_from_strictly_increasing}
use Rattle.rela_names.specs.Shortlex.{First, IsBefore}
use Rattle.rela_letter_nfa.specs.Differences.{Differs, IsAgreed, IsOnSide}
use Rattle.rela_letter_nfa.specs.Pair.{ArePaired, HasFinalFrom, IsSoughtSet, Pair, joined, starts_of}
use Rattle.rela_letter_nfa.specs.Runs.{Accepts}
use Rattle.rela_letter_nfa.specs.Searching.{AreUnwanted, IsSearched}
use Rattle.rela_letter_nfa.specs.Sets.{LeadsFrom, Lists}
use Rattle.rela_letter_nfa.specs.declared.arrival.Arrival.{Arrival}
use Rattle.rela_letter_nfa.specs.declared.difference.Sought.{Sought}
use Rattle.rela_letter_nfa.specs.declared.difference.Which.{Which}
use Rattle.rela_letter_nfa.specs.declared.difference.Which.TheVariants as which
use Rattle.rela_letter_nfa.proofs.Claims.{agreed, not_sought, side_told, sought_along}
use Rattle.rela_letter_nfa.proofs.Halves.{final_or_not, first_accepts, second_accepts}
use Rattle.rela_letter_nfa.proofs.Members.{Contains-nil}
use Rattle.rela_letter_nfa.proofs.Standing.{LeadsBelow, leads_all, leads_before}

-- what is so of a claim is so of another
decided_along : (P Q : Type 0) → P ↔ Q → P ⊎ ¬ P → Q ⊎ ¬ Q
decided_along P Q same either = elim either [ inl p ↦ inl (same.0 p) | inr no_p ↦ inr (λ q. no_p (same.1 q)) ]

no_final : (a : _) (before : ℕ) → ¬ HasFinalFrom a before []
no_final a before (q, among, final) = Contains-nil (before + q) among

module _ (sought : Sought) (pair : Pair) (are : ArePaired pair) where
  abbrev Reaches : List ℕ → ℕ → Type 0
  Reaches = LeadsFrom (joined pair) (starts_of pair)

  abbrev IsWordSought : List ℕ → Type 0
  IsWordSought = Differs sought pair.first pair.second

  pub word_if_set : (word set : List ℕ) → Lists (LeadsFrom (joined pair) (starts_of pair) word) set → IsSoughtSet sought pair set → IsWordSought word
  word_if_set word set is =
      sought_along sought (HasFinalFrom pair.first 0 set) (Accepts pair.first word) (HasFinalFrom pair.second _ set) (Accepts pair.second word) (first_accepts pair are word set is)
      (second_accepts pair are word set is)

  set_if_word : (word set : List ℕ) → Lists (LeadsFrom (joined pair) (starts_of pair) word) set → IsWordSought word → IsSoughtSet sought pair set
  set_if_word word set is =
      let first = first_accepts pair are word set is in
      let second = second_accepts pair are word set is in
      sought_along sought (Accepts pair.first word) (HasFinalFrom pair.first 0 set) (Accepts pair.second word) (HasFinalFrom pair.second _ set) (first.1, first.0) (second.1, second.0)

  -- a word that leads to no state is not sought
  dead_set : (word : List ℕ) → ((q : ℕ) → ¬ LeadsFrom (joined pair) (starts_of pair) word q) → Lists (LeadsFrom (joined pair) (starts_of pair) word) []
  dead_set word dead = record { ordered = sorted_from_strictly_increasing [] (λ i below. absurd (omega (arith, below))); members = λ q. (λ none. absurd (Contains-nil q none), λ leads. absurd (dead q leads)) }

  empty_unsought : ¬ IsSoughtSet sought pair []
  empty_unsought = not_sought sought (HasFinalFrom pair.first 0 []) (HasFinalFrom pair.second _ []) (no_final pair.first 0) (no_final pair.second _)

  -- the word leads to a set that isn't sought
  record IsUnsought (word : List ℕ) : Type 0 where
    set : List ℕ
    is : Lists (LeadsFrom (joined pair) (starts_of pair) word) set
    other : ¬ IsSoughtSet sought pair set

  module _ (sets : List (List ℕ)) (arrivals : List Arrival) (left bound : ℕ) (is : IsSearched (joined pair) (starts_of pair) sets arrivals left bound) where
    below_unsought : (n : ℕ) (word : List ℕ) → LeadsBelow (joined pair) (starts_of pair) sets arrivals left bound is n word
        → ((i : ℕ) → i < n → i < length sets → ¬ IsSoughtSet sought pair (get_or sets i [])) → IsUnsought word
    below_unsought n word leads none = elim leads [
      | inl (j, j_in, within, reached) ↦ record { set = get_or sets j []; is = reached; other = none j j_in within }
      | inr dead ↦ record { set = []; is = dead_set word dead; other = empty_unsought }
    ]

    unsought_agrees : (word : List ℕ) → IsUnsought word → IsAgreed sought (Accepts pair.first word) (Accepts pair.second word)
    unsought_agrees word un =
        agreed sought (Accepts pair.first word) (Accepts pair.second word)
        (decided_along (HasFinalFrom pair.first 0 un.set) (Accepts pair.first word) (first_accepts pair are word un.set un.is) (final_or_not pair.first 0 un.set))
        (decided_along (HasFinalFrom pair.second _ un.set) (Accepts pair.second word) (second_accepts pair are word un.set un.is) (final_or_not pair.second _ un.set))
        (λ is_sought. un.other (set_if_word word un.set un.is is_sought))

    -- where no set is sought, no word is
    pub none_sought : left ≡ length sets → AreUnwanted (IsSoughtSet sought pair) sets → (word : List ℕ) → IsAgreed sought (Accepts pair.first word) (Accepts pair.second word)
    none_sought all unwanted word =
        unsought_agrees word (below_unsought (length sets) word (leads_all (joined pair) (starts_of pair) sets arrivals left bound is all word) (λ i i_in within. unwanted i within))

    module _ (number : ℕ) (within : number < length sets) (earlier : (i : ℕ) → i < number → ¬ IsSoughtSet sought pair (get_or sets i [])) where
      -- no word before that of the set is sought
      pub none_before : (v : List ℕ) → Differs sought pair.first pair.second v → ¬ IsBefore v (get_or is.words number [])
      none_before v differs before =
          let un = below_unsought number v (leads_before (joined pair) (starts_of pair) sets arrivals left bound is number within v before) (λ i i_in _. earlier i i_in) in
          un.other (set_if_word v un.set un.is differs)

      pub first_sought : IsSoughtSet sought pair (get_or sets number []) → First (Differs sought pair.first pair.second) (get_or is.words number [])
      first_sought here = record {
        member = word_if_set (get_or is.words number []) (get_or sets number []) (is.reached number within) here;
        least = none_before;
      }

      pub side_of_first : (side : Which) → IsSoughtSet sought pair (get_or sets number []) → (side ≡ which.First → HasFinalFrom pair.first 0 (get_or sets number []))
          → (side ≡ which.Second → ¬ HasFinalFrom pair.first 0 (get_or sets number [])) → IsOnSide pair.first pair.second (get_or is.words number []) side
      side_of_first side here first second =
          let word : List ℕ = get_or is.words number [] in
          let same = first_accepts pair are word (get_or sets number []) (is.reached number within) in
          side_told sought side (Accepts pair.first word) (HasFinalFrom pair.first 0 (get_or sets number [])) (Accepts pair.second word) (same.1, same.0) first second
          (word_if_set word (get_or sets number []) (is.reached number within) here)
