-- Two automata that read one word together.
use Rattle.std.specs.Prelude.{◌≡◌, ℕ, ◌&&◌, Bool, false, List, [], ◌∷◌, ◌++◌, length, map, Option, None, Some, slice_get, slice_index_or, if◌then◌else◌}
use Rattle.std.specs.List.{Contains, flat_map, list_any, range_with_len}
use Rattle.rela_labels.specs.Letters.{has}
use Rattle.rela_pairs.specs.Exploration.{Exploration}
use Rattle.rela_pairs.specs.Reachable.{AreDistinct}
use Rattle.rela_pairs.specs.declared.pair.Pair.{Pair}
use Rattle.rela_nfa.specs.Automaton.{Automaton, Move, moves_of, states}
use Rattle.rela_nfa.specs.Runs.{Reach}

-- the word leads the first automaton to the left state and the second to the right one
abbrev pub ReachBoth : Automaton → Automaton → Pair → List ℕ → Type 0
ReachBoth a b x word = Reach a x.left word × Reach b x.right word

-- some word leads to both states
abbrev pub AreReachedTogether : Automaton → Automaton → Pair → Type 0
AreReachedTogether a b x = (word : List ℕ) × ReachBoth a b x word

-- the states of r are the pairs that are reached together, each once and each by the words that lead to both
pub record IsMeet (a b : Automaton) (pairs : List Pair) (r : Automaton) : Type 0 where
  pub count : length pairs ≡ states r
  pub distinct : AreDistinct pairs
  pub together : (x : Pair) → Contains pairs x → AreReachedTogether a b x
  pub all : (x : Pair) → AreReachedTogether a b x → Contains pairs x
  pub reached : (k : ℕ) (x : Pair) → slice_get pairs k ≡ Some x → (word : List ℕ) →
      (Reach r k word → ReachBoth a b x word) × (ReachBoth a b x word → Reach r k word)

-- the letters that are in both sets
abbrev pub common : List Bool → List Bool → List Bool
common s t = map (λ k. has s k && has t k) (range_with_len 0 (length s))

-- an edge of the two together: its label, and the pair to which it leads
pub record JointMove : Type 0 where
  pub label : Option (List Bool)
  pub to : Pair

-- an edge of each by a common letter, where there is one
abbrev pub labelled_both : Option (List Bool) → Option (List Bool) → Pair → List JointMove
labelled_both None other to = []
labelled_both (Some s) None to = []
labelled_both (Some s) (Some t) to = if list_any (λ b. b) (common s t)
    then record { label = Some (common s t); to = to } ∷ [] else []

-- a silent edge, where the other automaton stays
abbrev pub silent_one : Option (List Bool) → Pair → List JointMove
silent_one None to = record { label = None; to = to } ∷ []
silent_one (Some s) to = []

abbrev pub pair_of : ℕ → ℕ → Pair
pair_of p q = record { left = p; right = q }

abbrev pub left_moves : ℕ → List Move → List JointMove
left_moves right moves = flat_map (λ m. silent_one m.label (pair_of m.to right)) moves

abbrev pub right_moves : ℕ → List Move → List JointMove
right_moves left moves = flat_map (λ n. silent_one n.label (pair_of left n.to)) moves

abbrev pub moves_with : Move → List Move → List JointMove
moves_with m others = flat_map (λ n. labelled_both m.label n.label (pair_of m.to n.to)) others

-- the edges of the two together that leave a pair
abbrev pub joint_moves : Automaton → Automaton → Pair → List JointMove
joint_moves a b x =
    left_moves x.right (moves_of a x.left) ++ right_moves x.left (moves_of b x.right)
    ++ flat_map (λ m. moves_with m (moves_of b x.right)) (moves_of a x.left)

-- the pairs to which they lead
abbrev pub next_pairs : Automaton → Automaton → Pair → List Pair
next_pairs a b x = map (λ j. j.to) (joint_moves a b x)

-- the edges with the numbers of the pairs to which they lead
abbrev pub numbered : List JointMove → List ℕ → List Move
numbered [] targets = []
numbered (j ∷ moves) [] = []
numbered (j ∷ moves) (t ∷ targets) = record { label = j.label; to = t } ∷ numbered moves targets

-- those of the pair of this number
abbrev pub product_moves_at : Automaton → Automaton → Exploration → ℕ → List Move
product_moves_at a b explored k = numbered (slice_index_or (map (joint_moves a b) explored.pairs)
    k []) (slice_index_or explored.targets k [])

-- whether both states are final
abbrev pub final_both : Automaton → Automaton → Pair → Bool
final_both a b x = slice_index_or a.finals x.left false && slice_index_or b.finals x.right false

-- the pairs that are reachable from the two starts as states, with what leads on from each
pub record IsProduct (a b : Automaton) (explored : Exploration) (r : Automaton) : Type 0 where
  pub letters : r.letters ≡ a.letters
  pub start : r.start ≡ 0
  pub edges : r.edges ≡ map (product_moves_at a b explored)
      (range_with_len 0 (length explored.pairs))
  pub finals : r.finals ≡ map (final_both a b) explored.pairs
