-- What a search through the sets of states of a union says of the two automata.
use Rattle.std.proofs.Common.{◌≡◌, ℕ, ◌+◌, ◌<◌, ◌⊎◌, ◌↔◌, Bool, true, List, [], length, get_or, sym, subst, inl, inr, arith}
use Rattle.std.specs.List.{All}
use Rattle.std.proofs.lemmas.List.Elements.{All-from_get_or, All-weaker}
use Rattle.rela_labels.specs.Letters.{has}
use Rattle.rela_names.specs.Shortlex.{First, IsBefore}
use Rattle.rela_nfa.specs.Automaton.{Automaton, IsAutomaton, states}
use Rattle.rela_nfa.specs.Runs.{Accepts}
use Rattle.rela_nfa.specs.StateSet.{Lists}
use Rattle.rela_subset.specs.Deterministic.{IsOver}
use Rattle.rela_subset.specs.Sets.{ReachedBy}
use Rattle.rela_subset.specs.Subsets.{AreApart, IsUnwantedWord, IsWantedWord, ReachSetsBefore}
use Rattle.rela_compare.specs.Comparison.{ReachPairsBefore}
use Rattle.rela_compare.specs.Halves.{AreCopied, Differs, HasFinalFrom, IsAgreed, IsSought}
use Rattle.rela_compare.specs.declared.sought.Sought.{Sought}
use Rattle.rela_compare.proofs.AcceptedLetters.{accepted_letters, below_size}
use Rattle.rela_compare.proofs.Copies.{agreed_if, apart_in_one, final_or_not, first_accepts, one_of_them, second_accepts, sought_along}
use Rattle.rela_compare.proofs.Dropping.{less_one}

-- a claim is decided with an equivalent one
decided_along : (P Q : Type 0) → P ↔ Q → P ⊎ ¬ P → Q ⊎ ¬ Q
decided_along P Q same decided = elim decided [ inl p ↦ inl (same.0 p) | inr no_p ↦ inr (λ q. no_p (same.1 q)) ]

-- the two automata and their union, and the set of all letters
pub record AreJoined (a b u : Automaton) (over : List Bool) (split : ℕ) : Type 0 where
  pub copied : AreCopied a b u
  pub first_ok : IsAutomaton a
  pub second_ok : IsAutomaton b
  pub same : a.letters ≡ b.letters
  pub size : length over ≡ a.letters
  pub all : (k : ℕ) → k < a.letters → has over k ≡ true
  pub split_at : split ≡ 1 + states a

module _ (sought : Sought) (a b u : Automaton) (over : List Bool) (split : ℕ) (joined : AreJoined a b u over split) where
  -- the set is that of a sought word
  abbrev Wants : List ℕ → Type 0
  Wants set = IsSought sought (HasFinalFrom a 1 set) (HasFinalFrom b split set)

  second_from_split : (word set : List ℕ) → Lists (ReachedBy u word) set → HasFinalFrom b split set ↔ Accepts b word
  second_from_split word set lists = subst (λ n. HasFinalFrom b n set ↔ Accepts b word) (sym joined.split_at) (second_accepts a b u joined.copied word set lists)

  wanted_if : (word set : List ℕ) → Lists (ReachedBy u word) set → Differs sought a b word → Wants set
  wanted_if word set lists differs =
      let first = first_accepts a b u joined.copied word set lists in
      let second = second_from_split word set lists in
      sought_along sought (Accepts a word) (HasFinalFrom a 1 set) (Accepts b word) (HasFinalFrom b split set) (first.1, first.0) (second.1, second.0) differs

  only_if_wanted : (word set : List ℕ) → Lists (ReachedBy u word) set → Wants set → Differs sought a b word
  only_if_wanted word set lists wanted =
      sought_along sought (HasFinalFrom a 1 set) (Accepts a word) (HasFinalFrom b split set) (Accepts b word)
      (first_accepts a b u joined.copied word set lists) (second_from_split word set lists) wanted

  over_all : (word : List ℕ) → Accepts a word ⊎ Accepts b word → IsOver over word
  over_all word either = elim either [
    | inl in_a ↦ All-weaker (λ k. k < a.letters) (λ k. has over k ≡ true) joined.all word (accepted_letters a joined.first_ok word in_a)
    | inr in_b ↦
        All-weaker (λ k. k < b.letters) (λ k. has over k ≡ true) (λ k below. let same = joined.same in joined.all k (omega arith)) word
        (accepted_letters b joined.second_ok word in_b)
  ]

  differs_over : (word : List ℕ) → Differs sought a b word → IsOver over word
  differs_over word differs = over_all word (one_of_them sought (Accepts a word) (Accepts b word) differs)

  pub first_differs : (word : List ℕ) → First (IsWantedWord u over Wants) word → ((v : List ℕ) → IsOver over v → IsBefore v word → IsUnwantedWord u Wants v) → First (Differs sought a b) word
  first_differs word first before = record {
    member = let (read, (set, lists, wanted)) = first.member in only_if_wanted word set lists wanted;
    least = λ x differs earlier.
        let (set, lists, unwanted) = before x (differs_over x differs) earlier in
        unwanted (wanted_if x set lists differs);
  }

  pub none_differs : ((v : List ℕ) → IsOver over v → IsUnwantedWord u Wants v) → (word : List ℕ) → IsAgreed sought (Accepts a word) (Accepts b word)
  none_differs none word = agreed_if sought (Accepts a word) (Accepts b word) (λ either.
      let (set, lists, unwanted) = none word (over_all word either) in
      record {
        first = decided_along (HasFinalFrom a 1 set) (Accepts a word) (first_accepts a b u joined.copied word set lists) (final_or_not a 1 set);
        second = decided_along (HasFinalFrom b split set) (Accepts b word) (second_from_split word set lists) (final_or_not b split set);
        never = λ differs. unwanted (wanted_if word set lists differs);
      })

  -- what is kept of each word
  abbrev IsEarly : List ℕ → Type 0
  IsEarly w = All (λ k. k < a.letters) w × ((v : List ℕ) → Differs sought a b v → ¬ IsBefore v w)

  pub pairs_before : (n : ℕ) → ReachSetsBefore u over Wants (n + 1) → ReachPairsBefore a b (Differs sought a b) n
  pairs_before n reach =
      let words = reach.sets.words in
      let kept : All IsEarly words = All-from_get_or IsEarly words [] (λ i below. (
        All-weaker (λ k. has over k ≡ true) (λ k. k < a.letters)
            (λ k among. let within = below_size over k among in let size = joined.size in omega arith) (get_or words i []) (reach.sets.letters i [] below),
        λ v differs before.
            let (set, lists, unwanted) = reach.early i [] below v (differs_over v differs) before in
            unwanted (wanted_if v set lists differs),
      )) in
      let rest = less_one (AreApart u) IsEarly (λ (q, one). elim one [ inl left ↦ left.1 left.0 | inr right ↦ right.1 right.0 ]) words n reach.sets.count kept reach.sets.apart in
      record {
        words = rest.words;
        count = rest.count;
        letters = All-weaker IsEarly (All (λ k. k < a.letters)) (λ w is. is.0) rest.words rest.each;
        apart = λ i j d before within.
            let i_in : i < length rest.words = omega arith in
            apart_in_one a b u joined.copied (get_or rest.words i d) (get_or rest.words j d) (rest.some i d i_in) (rest.some j d within) (rest.apart i j d before within);
        early = All-weaker IsEarly (λ w. (v : List ℕ) → Differs sought a b v → ¬ IsBefore v w) (λ w is. is.1) rest.words rest.each;
      }
