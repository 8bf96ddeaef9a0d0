-- Two transducers one after the other: the second reads what the first writes.
use Rattle.std.specs.Prelude.{◌≡◌, ℕ, ◌<◌, ◌&&◌, ◌↔◌, Bool, false, List, [], ◌∷◌, ◌++◌, length, map, Option, None, Some, slice_get, slice_index_or, if◌then◌else◌}
use Rattle.std.specs.List.{Contains, flat_map, list_any, range_with_len}
use Rattle.std.specs.Option.{option_map}
use Rattle.rela_pairs.specs.Exploration.{Exploration}
use Rattle.rela_pairs.specs.Reachable.{AreDistinct}
use Rattle.rela_pairs.specs.declared.pair.Pair.{Pair}
use Rattle.rela_nfa.specs.Meeting.{common, pair_of}
use Rattle.rela_trans.specs.Machine.{Machine, Kind, machine_states, moves_of}
use Rattle.rela_trans.specs.Runs.{ReachR}
use Rattle.rela_trans.specs.Stored.{kind_of}
use Rattle.rela_trans.specs.declared.joint.JointMove.{JointMove}
use Rattle.rela_trans.specs.declared.moves.Move.{Move}
use Rattle.rela_trans.specs.declared.moves.MoveKind.TheVariants.{Silent, In, Out, Same}

-- each letter is the letter of some symbol
abbrev pub Covers : (ℕ → ℕ) → ℕ → Type 0
Covers read letters = (k : ℕ) → k < letters → (s : ℕ) × (read s ≡ k)

-- by some word in the middle the first reaches the left state from u, and the second the right state with w
abbrev pub ReachThrough : (ℕ → ℕ) → Machine → Machine → Pair → List ℕ → List ℕ → Type 0
ReachThrough read a b x u w = (middle : List ℕ) × ReachR read a x.left u middle
    × ReachR read b x.right middle w

-- one word of letters in the middle leads to both states
abbrev pub AreReachedThrough : Machine → Machine → Pair → Type 0
AreReachedThrough a b x = (u : List ℕ) × (w : List ℕ) × ReachThrough (λ k. k) a b x u w

-- the states of r are the pairs that one word in the middle leads to, each once and each by the pairs of words that do
pub record IsComposition (a b : Machine) (pairs : List Pair) (r : Machine) : Type 0 where
  pub count : length pairs ≡ machine_states r
  pub distinct : AreDistinct pairs
  pub together : (x : Pair) → Contains pairs x → AreReachedThrough a b x
  pub all : (x : Pair) → AreReachedThrough a b x → Contains pairs x
  pub reached : (read : ℕ → ℕ) → Covers read a.letters → (k : ℕ) (x : Pair) → slice_get pairs k
      ≡ Some x → (u w : List ℕ) → ReachR read r k u w ↔ ReachThrough read a b x u w

-- the set, unless it is empty
abbrev pub unless_empty : List Bool → Option (List Bool)
unless_empty set = if list_any (λ b. b) set then Some set else None

-- what the first does alone: it writes nothing
abbrev pub first_alone : Kind → Option Kind
first_alone Silent = Some Silent
first_alone (In set) = option_map In (unless_empty set)
first_alone (Out set) = None
first_alone (Same set) = None

-- what the second does alone: it reads nothing
abbrev pub second_alone : Kind → Option Kind
second_alone Silent = Some Silent
second_alone (In set) = None
second_alone (Out set) = option_map Out (unless_empty set)
second_alone (Same set) = None

-- what both do where the first reads nothing and writes a letter, which the second reads
abbrev pub after_out : List Bool → Kind → Option Kind
after_out written Silent = None
after_out written (In set) = option_map (λ _. Silent) (unless_empty (common written set))
after_out written (Out set) = None
after_out written (Same set) = option_map Out (unless_empty (common written set))

-- what both do where the first writes the letter that it reads
abbrev pub after_same : List Bool → Kind → Option Kind
after_same written Silent = None
after_same written (In set) = option_map In (unless_empty (common written set))
after_same written (Out set) = None
after_same written (Same set) = option_map Same (unless_empty (common written set))

-- what both do by a letter that the first writes and the second reads, where there is one
abbrev pub both_by_letter : Kind → Kind → Option Kind
both_by_letter Silent second = None
both_by_letter (In set) second = None
both_by_letter (Out written) second = after_out written second
both_by_letter (Same written) second = after_same written second

-- the move, its set by its letters
abbrev pub joint_of : {L : Type 0} → (L → List Bool) → JointMove L → JointMove (List Bool)
joint_of letters move = record { kind = kind_of letters move.kind; to = move.to }

-- a move of this kind, where there is one
abbrev pub made : Option Kind → Pair → List (JointMove (List Bool))
made None to = []
made (Some kind) to = record { kind = kind; to = to } ∷ []

abbrev pub first_moves : ℕ → List (Move (List Bool)) → List (JointMove (List Bool))
first_moves right moves = flat_map (λ m. made (first_alone m.kind) (pair_of m.to right)) moves

abbrev pub second_moves : ℕ → List (Move (List Bool)) → List (JointMove (List Bool))
second_moves left moves = flat_map (λ n. made (second_alone n.kind) (pair_of left n.to)) moves

abbrev pub moves_with : Move (List Bool) → List (Move (List Bool)) → List (JointMove (List Bool))
moves_with m others = flat_map (λ n. made (both_by_letter m.kind n.kind) (pair_of m.to n.to)) others

-- the moves of the two that leave a pair
abbrev pub joint_moves : Machine → Machine → Pair → List (JointMove (List Bool))
joint_moves a b x =
    first_moves x.right (moves_of a x.left) ++ second_moves x.left (moves_of b x.right)
    ++ flat_map (λ m. moves_with m (moves_of b x.right)) (moves_of a x.left)

-- the pairs to which they lead
abbrev pub next_pairs : Machine → Machine → Pair → List Pair
next_pairs a b x = map (λ j. j.to) (joint_moves a b x)

-- the moves with the numbers of the pairs to which they lead
abbrev pub numbered : List (JointMove (List Bool)) → List ℕ → List (Move (List Bool))
numbered [] targets = []
numbered (j ∷ moves) [] = []
numbered (j ∷ moves) (t ∷ targets) = record { kind = j.kind; to = t } ∷ numbered moves targets

-- those of the pair of this number
abbrev pub product_moves_at : Machine → Machine → Exploration → ℕ → List (Move (List Bool))
product_moves_at a b explored k = numbered (slice_index_or (map (joint_moves a b) explored.pairs)
    k []) (slice_index_or explored.targets k [])

-- whether both states are final
abbrev pub final_both : Machine → Machine → Pair → Bool
final_both a b x = slice_index_or a.finals x.left false && slice_index_or b.finals x.right false

-- the pairs that are reachable from the two starts as states, with what leads on from each
pub record IsProduct (a b : Machine) (explored : Exploration) (r : Machine) : Type 0 where
  pub letters : r.letters ≡ a.letters
  pub start : r.start ≡ 0
  pub moves : r.moves ≡ map (product_moves_at a b explored)
      (range_with_len 0 (length explored.pairs))
  pub finals : r.finals ≡ map (final_both a b) explored.pairs
