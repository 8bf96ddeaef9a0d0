-- Letters by which the same edges may be taken.
use Rattle.std.proofs.Common.{◌≡◌, ℕ, ◌+◌, ◌<◌, ◌≤◌, ◌↔◌, ◌&&◌, Bool, true, List, [], ◌∷◌, ◌++◌, length, get_or, map, take, Some, refl, sym, ap, ◌∙◌, subst, arith}
use Rattle.std.specs.List.{All}
use Rattle.std.specs.Prelude.{Result, Ok, Err, IfOk}
use Rattle.std.proofs.lemmas.List.{length-map, get_or-map, map_more, take_all}
use Rattle.std.proofs.lemmas.List.Elements.{All-contains, All-nil, All-pop, All-push}
use Rattle.rela_labels.specs.Letters.{has}
use Rattle.rela_nfa.specs.Automaton.{Automaton, Move, moves_of}
use Rattle.rela_nfa.specs.Runs.{StepIn}
use Rattle.rela_nfa.specs.StateSet.{Lists}
use Rattle.rela_subset.specs.Deterministic.{takes}
use Rattle.rela_subset.specs.Expansion.{AreTakenAlike}
use Rattle.rela_subset.specs.Sets.{NextFrom}

-- what holds of each and of one more
All-more_iff : {X : Type 0} (P : X → Type 0) (xs : List X) (x : X) → All P (xs ++ x ∷ []) ↔ (All P xs × P x)
All-more_iff P xs x = (λ all. All-pop P (xs ++ x ∷ []) xs (Some x) refl all, λ (front, last). All-push P xs x front last)

module _ {X : Type 0} (move_at : X → Move) (edges : List X) (j : ℕ) (old : List Bool) where
  -- the letters by which the edges so far are taken alike
  abbrev pub IsNarrowed : ℕ → List Bool → Type 0
  IsNarrowed i narrow = (k : ℕ) → (has narrow k ≡ true) ↔ ((has old k ≡ true) × AreTakenAlike (map move_at (take i edges)) j k)

  pub narrowed_none : IsNarrowed 0 old
  narrowed_none k = (λ h. (h, All-nil (λ move. takes k move ≡ takes j move)), λ h. h.0)

  pub narrowed_more : (i : ℕ) (edge : X) (narrow narrow' : List Bool) → i < length edges → edge ≡ get_or edges i edge → IsNarrowed i narrow
      → ((k : ℕ) → (has narrow' k ≡ true) ↔ ((has narrow k ≡ true) × (takes k (move_at edge) ≡ takes j (move_at edge)))) → IsNarrowed (i + 1) narrow'
  narrowed_more i edge narrow narrow' below at before last k =
      let grown : map move_at (take (i + 1) edges) ≡ map move_at (take i edges) ++ move_at edge ∷ [] =
      map_more move_at edges i edge below ∙ ap (λ e. map move_at (take i edges) ++ move_at e ∷ []) (sym at) in
      let both = All-more_iff (λ move. takes k move ≡ takes j move) (map move_at (take i edges)) (move_at edge) in (
        λ h. let (was, here) = (last k).0 h in let (first, alike) = (before k).0 was in
            (first, subst (λ ms. AreTakenAlike ms j k) (sym grown) (both.1 (alike, here))),
        λ (first, all). let (alike, here) = both.0 (subst (λ ms. AreTakenAlike ms j k) grown all) in (last k).1 ((before k).1 (first, alike), here),
      )

  pub narrowed_all : (i : ℕ) (narrow : List Bool) → length edges ≤ i → IsNarrowed i narrow → (k : ℕ) → (has narrow k ≡ true) ↔ ((has old k ≡ true) × AreTakenAlike (map move_at edges) j k)
  narrowed_all i narrow all are = subst (λ (es : List X). (k : ℕ) → (has narrow k ≡ true) ↔ ((has old k ≡ true) × AreTakenAlike (map move_at es) j k)) (take_all i edges all) are

-- a letter that is taken as j is in a label that has j
pub in_label : {X : Type 0} (move_at : X → Move) (edges : List X) (j k i : ℕ) (edge : X) (label : List Bool) → i < length edges → edge ≡ get_or edges i edge
    → (move_at edge).label ≡ Some label → has label j ≡ true → AreTakenAlike (map move_at edges) j k → has label k ≡ true
in_label move_at edges j k i edge label below at is has_j alike =
    let here : takes k (move_at edge) ≡ takes j (move_at edge) =
    subst (λ m. takes k m ≡ takes j m) (get_or-map move_at edges i edge (move_at edge) below ∙ ap move_at (sym at))
    (alike i (move_at edge) (omega (arith, below, length-map edges move_at))) in
    let of : (n : ℕ) → takes n (move_at edge) ≡ has label n = λ n. ap (λ l. takes n (record { label = l; to = (move_at edge).to })) is in
    sym (of k) ∙ here ∙ of j ∙ has_j

-- and so it is in what the rest has in common with the label
pub in_common : {X E : Type 0} (letters : X → List Bool) (moves : List Move) (rest label : List Bool) (j : ℕ) (r : Result X E)
    → ((k : ℕ) → AreTakenAlike moves j k → has label k ≡ true) → IfOk r (λ common. (k : ℕ) → has (letters common) k ≡ (has rest k && has label k))
    → IfOk r (λ common. (k : ℕ) → has rest k ≡ true → AreTakenAlike moves j k → has (letters common) k ≡ true)
in_common letters moves rest label j (Ok common) labelled both = λ k in_rest alike. both k ∙ ap (λ b. b && has label k) in_rest ∙ labelled k alike
in_common letters moves rest label j (Err e) labelled both = tt

-- letters that are alike lead to the same states
step_alike : (moves : List Move) (j k q : ℕ) → AreTakenAlike moves j k → StepIn moves (Some j) q → StepIn moves (Some k) q
step_alike moves j k q alike (set, among, taken) = (set, among, All-contains (λ move. takes k move ≡ takes j move) moves _ alike among ∙ taken)

step_alike_back : (moves : List Move) (j k q : ℕ) → AreTakenAlike moves j k → StepIn moves (Some k) q → StepIn moves (Some j) q
step_alike_back moves j k q alike (set, among, taken) = (set, among, sym (All-contains (λ move. takes k move ≡ takes j move) moves _ alike among) ∙ taken)

pub next_alike : (a : Automaton) (set : List ℕ) (j k : ℕ) (next : List ℕ) → All (λ q. AreTakenAlike (moves_of a q) j k) set → Lists (NextFrom a set j) next → Lists (NextFrom a set k) next
next_alike a set j k next alike is = record {
  ordered = is.ordered;
  members = λ q. (
    λ c. let (to, (p, among, step), silent) = (is.members q).0 c in
        (to, (p, among, step_alike (moves_of a p) j k to (All-contains (λ n. AreTakenAlike (moves_of a n) j k) set p alike among) step), silent),
    λ (to, (p, among, step), silent).
        (is.members q).1 (to, (p, among, step_alike_back (moves_of a p) j k to (All-contains (λ n. AreTakenAlike (moves_of a n) j k) set p alike among) step), silent),
  );
}
