-- What a transducer may reach while it reads the words of an automaton whose letters are finer. A label of the
-- automaton is known by its one letter, and one of several letters is taken to share a letter with each set.
use Rattle.std.specs.Prelude.{◌≡◌, ℕ, Bool, true, false, List, [], ◌∷◌, ◌++◌, length, map, Option, None, Some, slice_index, slice_index_or, suc, if◌then◌else◌}
use Rattle.std.specs.List.{flat_map, list_any, range_with_len}
use Rattle.std.specs.Option.{option_map}
use Rattle.rela_labels.specs.Letters.{has}
use Rattle.rela_pairs.specs.Reachable.{Reachable}
use Rattle.rela_pairs.specs.declared.pair.Pair.{Pair}
use Rattle.rela_nfa.specs.Automaton.{Automaton, Move as Edge, moves_of as edges_of}
use Rattle.rela_nfa.specs.Meeting.{pair_of}
use Rattle.rela_trans.specs.Machine.{Machine, Kind, machine_states, moves_of}
use Rattle.rela_trans.specs.Relabelling.{relabelled_move}
use Rattle.rela_trans.specs.declared.moves.Move.{Move}
use Rattle.rela_trans.specs.declared.moves.MoveKind.TheVariants.{Silent, In, Out, Same}

-- the letter of a set that has one alone
abbrev pub only_letter : List Bool → Option ℕ
only_letter [] = None
only_letter (true ∷ rest) = if list_any (λ b. b) rest then None else Some 0
only_letter (false ∷ rest) = option_map suc (only_letter rest)

-- the old letter in which it lies
abbrev pub only_parent : List ℕ → List Bool → Option ℕ
only_parent parents set = option_map (λ k. slice_index parents k) (only_letter set)

-- whether the set has the letter; where none is known, it may
abbrev pub may_have : Option ℕ → List Bool → Bool
may_have None set = true
may_have (Some letter) set = has set letter

-- whether a move of this kind may read the letter
abbrev pub may_read : Option ℕ → Kind → Bool
may_read letter Silent = false
may_read letter (In set) = may_have letter set
may_read letter (Out set) = false
may_read letter (Same set) = may_have letter set

-- whether a move of this kind reads nothing
abbrev pub reads_nothing : Kind → Bool
reads_nothing Silent = true
reads_nothing (In set) = false
reads_nothing (Out set) = true
reads_nothing (Same set) = false

-- the pair, if it is to be taken
abbrev pub pair_if : Bool → Pair → List Pair
pair_if true to = to ∷ []
pair_if false to = []

-- where the transducer goes alone
abbrev pub alone_pairs : ℕ → List (Move (List Bool)) → List Pair
alone_pairs left moves = flat_map (λ n. pair_if (reads_nothing n.kind) (pair_of left n.to)) moves

-- where the transducer goes by the letter, while the automaton goes to the left state
abbrev pub letter_pairs : Option ℕ → ℕ → List (Move (List Bool)) → List Pair
letter_pairs letter left moves = flat_map (λ n.
    pair_if (may_read letter n.kind) (pair_of left n.to)) moves

-- where both go by an edge of this label to the left state; by a silent one the transducer stays at the right state
abbrev pub label_pairs : List ℕ → ℕ → List (Move (List Bool)) → Option (List Bool) → ℕ → List Pair
label_pairs parents right moves None left = pair_of left right ∷ []
label_pairs parents right moves (Some set) left = letter_pairs (only_parent parents set) left moves

abbrev pub edge_pairs : List ℕ → ℕ → List (Move (List Bool)) → Edge → List Pair
edge_pairs parents right moves edge = label_pairs parents right moves edge.label edge.to

-- the pairs of states to which the two may go from a pair
abbrev pub reading_pairs : List ℕ → Automaton → Machine → Pair → List Pair
reading_pairs parents a t x = alone_pairs x.left (moves_of t x.right)
    ++ flat_map (edge_pairs parents x.right (moves_of t x.right)) (edges_of a x.left)

-- the transducer may come to the state while it reads a word of the automaton
abbrev pub MayReach : List ℕ → Automaton → Machine → ℕ → Type 0
MayReach parents a t q = (p : ℕ) × Reachable (reading_pairs parents a t)
    (pair_of a.start t.start) (pair_of p q)

-- the state's moves over the finer letters, if it is kept
abbrev pub kept_moves : List ℕ → List Bool → Machine → ℕ → List (Move (List Bool))
kept_moves parents kept t q = if slice_index_or kept q false
    then map (relabelled_move parents) (moves_of t q) else []

-- the same transducer over the finer letters, where only the states that are kept have moves
pub record IsKept (parents : List ℕ) (kept : List Bool) (t r : Machine) : Type 0 where
  pub letters : r.letters ≡ length parents
  pub start : r.start ≡ t.start
  pub finals : r.finals ≡ t.finals
  pub moves : r.moves ≡ map (kept_moves parents kept t) (range_with_len 0 (machine_states t))
