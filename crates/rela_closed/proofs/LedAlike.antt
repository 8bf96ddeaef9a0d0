-- Letters by which the same edges may be taken lead to the same sets.
use Rattle.std.proofs.Common.{◌≡◌, ℕ, suc, ◌<◌, ◌&&◌, not, Bool, true, false, List, [], ◌∷◌, ◌++◌, length, get_or, Option, None, Some, refl, sym, ap, ◌∙◌, subst, inl, inr, arith, length-append}
use Rattle.std.specs.List.{All, Contains}
use Rattle.std.specs.Option.{ForSome, option_to_list}
use Rattle.std.proofs.lemmas.Bool.{cases_Bool, false≢true}
use Rattle.std.proofs.lemmas.List.{append-nil, same_from_push}
use Rattle.std.proofs.lemmas.List.Elements.{All-contains, All-weaker}
use Rattle.rela_labels.specs.Letters.{has}
use Rattle.rela_nfa.specs.Automaton.{Automaton, Move, moves_of}
use Rattle.rela_nfa.specs.Runs.{HasStep, Reach, StepIn}
use Rattle.rela_nfa.specs.StateSet.{Lists}
use Rattle.rela_closed.specs.Listing.{takes}
use Rattle.rela_closed.specs.Sets.{AreReached, ReachedBy}
use Rattle.rela_closed.specs.Splitting.{AreSorted, AreTogether, AreTold, IsSorted, LeadAlike, Sorted, Splitting}
use Rattle.rela_closed.proofs.Reached.{reach_each, reach_silent, reach_step}
use Rattle.rela_closed.proofs.Walks.{lists_as}

-- each of the edges may be taken by both letters or by neither
abbrev pub AreTakenAlike : List Move → ℕ → ℕ → Type 0
AreTakenAlike moves j k = All (λ move. takes k move ≡ takes j move) moves

step_alike : (moves : List Move) (j k q : ℕ) → AreTakenAlike moves j k → StepIn moves (Some j) q → StepIn moves (Some k) q
step_alike moves j k q alike (set, among, taken) = (set, among, All-contains (λ move. takes k move ≡ takes j move) moves _ alike among ∙ taken)

module _ (a : Automaton) (word : List ℕ) (j k : ℕ) (alike : (q : ℕ) → Reach a q word → AreTakenAlike (moves_of a q) j k) where
  led_alike : (q : ℕ) → Reach a q (word ++ j ∷ []) → Reach a q (word ++ k ∷ [])
  led_alike q reach =
      reach_each a (λ p u. u ≡ word ++ j ∷ [] → Reach a p (word ++ k ∷ [])) (λ p r letter u reads there step same. one letter p r u reads there step same)
      (λ same. absurd (omega (arith, ap length same, length-append word (j ∷ [])))) q (word ++ j ∷ []) reach refl
    where
      one : (letter : Option ℕ) (p r : ℕ) (u : List ℕ) → Reach a p u → (u ≡ word ++ j ∷ [] → Reach a p (word ++ k ∷ [])) → HasStep a p letter r → u ++ option_to_list letter ≡ word ++ j ∷ []
          → Reach a r (word ++ k ∷ [])
      one None p r u reads there step same = reach_silent a p r (word ++ k ∷ []) (there (sym (append-nil u) ∙ same)) step
      one (Some i) p r u reads there step same =
          let parts = same_from_push u word i j same in
          let at : Reach a p word = subst (λ x. Reach a p x) parts.0 reads in
          let by : HasStep a p (Some j) r = subst (λ n. HasStep a p (Some n) r) parts.1 step in
          reach_step a p r (Some k) word at (step_alike (moves_of a p) j k r (alike p at) by)

lists_alike : (a : Automaton) (word set next : List ℕ) (j k : ℕ) → Lists (ReachedBy a word) set → ((q : ℕ) → Contains set q → AreTakenAlike (moves_of a q) j k) → Lists (ReachedBy a (word ++ j ∷ [])) next
    → Lists (ReachedBy a (word ++ k ∷ [])) next
lists_alike a word set next j k is alike there =
    let on = λ (q : ℕ) (reach : Reach a q word). alike q ((is.members q).1 reach) in
    let back = λ (q : ℕ) (reach : Reach a q word). All-weaker (λ move. takes k move ≡ takes j move) (λ move. takes j move ≡ takes k move) (λ move e. sym e) (moves_of a q) (on q reach) in
    lists_as (ReachedBy a (word ++ j ∷ [])) (ReachedBy a (word ++ k ∷ [])) next (λ q. (led_alike a word j k on q, led_alike a word k j back q)) there

-- from the states of the sets the same edges may be taken by both letters
abbrev pub LeaveAlike : List Automaton → List (List ℕ) → ℕ → ℕ → Type 0
LeaveAlike automata sets j k = (i : ℕ) (a : Automaton) (q : ℕ) → i < length automata → Contains (get_or sets i []) q → AreTakenAlike (moves_of (get_or automata i a) q) j k

reached_alike : (automata : List Automaton) (word : List ℕ) (sets next : List (List ℕ)) (j k : ℕ) → AreReached automata word sets → LeaveAlike automata sets j k → AreReached automata (word ++ j ∷ []) next
    → AreReached automata (word ++ k ∷ []) next
reached_alike [] word sets next j k here alike there = there
reached_alike (a ∷ automata) word [] next j k here alike there = absurd here
reached_alike (a ∷ automata) word (set ∷ sets) [] j k here alike there = absurd there
reached_alike (a ∷ automata) word (set ∷ sets) (follower ∷ next) j k here alike there = (
  lists_alike a word set follower j k here.0 (λ q among. alike 0 a q (omega arith) among) there.0,
  reached_alike automata word sets next j k here.1 (λ i d q below among. alike (suc i) d q (omega (arith, below)) among) there.1,
)

pub lead_alike : (automata : List Automaton) (sets : List (List ℕ)) (j k : ℕ) → LeaveAlike automata sets j k → LeadAlike automata sets j k
lead_alike automata sets j k alike next leads word here = reached_alike automata word sets next j k here alike (leads word here)

both_true : (x y : Bool) → (x && not y) ≡ true → (x ≡ true) × (y ≡ false)
both_true true true e = absurd (false≢true e)
both_true true false e = (refl, refl)
both_true false y e = absurd (false≢true e)

module _ (over : List Bool) (sorted : Sorted) (j k : ℕ) (j_over : has over j ≡ true) (j_off : has sorted.alone j ≡ false) (k_over : has over k ≡ true) (k_off : has sorted.alone k ≡ false)
    (together : AreTogether sorted.others j k) where
  label_alike : (label : List Bool) → IsSorted over sorted label → has label k ≡ has label j
  label_alike label is = elim is [
    | inl among ↦ All-contains (λ l. has l k ≡ has l j) sorted.others label together among
    | inr covered ↦ off k k_over k_off covered ∙ sym (off j j_over j_off covered)
  ]
    where
      off : (n : ℕ) → has over n ≡ true → has sorted.alone n ≡ false → ((m : ℕ) → has over m ≡ true → has label m ≡ true → has sorted.alone m ≡ true) → has label n ≡ false
      off n n_over n_off covered = elim (cases_Bool (has label n)) [
        | inl yes' ↦ absurd (false≢true (sym n_off ∙ covered n n_over yes'))
        | inr no' ↦ no'
      ]

  taken_alike : (label : Option (List Bool)) (to : ℕ) → ForSome label (IsSorted over sorted) → takes k (record { label = label; to = to }) ≡ takes j (record { label = label; to = to })
  taken_alike None to is = refl
  taken_alike (Some label) to is = label_alike label (is label refl)

  moves_alike : (moves : List Move) → AreSorted over sorted moves → AreTakenAlike moves j k
  moves_alike moves are = All-weaker (λ move. ForSome move.label (IsSorted over sorted)) (λ move. takes k move ≡ takes j move) (λ move is. taken_alike move.label move.to is) moves are

-- the labels of the edges out of the states of the sets are sorted out
abbrev pub AllSorted : List Bool → Sorted → List Automaton → List (List ℕ) → ℕ → Type 0
AllSorted over sorted automata sets n = (i : ℕ) (a : Automaton) (q : ℕ) → i < n → Contains (get_or sets i []) q → AreSorted over sorted (moves_of (get_or automata i a) q)

-- so they tell the letters of the rest apart
pub are_told : (over : List Bool) (sorted : Sorted) (automata : List Automaton) (sets : List (List ℕ)) (blocks : Splitting) → AllSorted over sorted automata sets (length automata)
    → ((k : ℕ) → has blocks.rest k ≡ (has over k && not (has sorted.alone k))) → blocks.labels ≡ sorted.others → AreTold automata sets blocks
are_told over sorted automata sets blocks all rest labels j k j_in k_in together =
    let of_j = both_true (has over j) (has sorted.alone j) (sym (rest j) ∙ j_in) in
    let of_k = both_true (has over k) (has sorted.alone k) (sym (rest k) ∙ k_in) in
    lead_alike automata sets j k (λ i a q below among.
    moves_alike over sorted j k of_j.0 of_j.1 of_k.0 of_k.1 (subst (λ ls. AreTogether ls j k) labels together) (moves_of (get_or automata i a) q) (all i a q below among))
