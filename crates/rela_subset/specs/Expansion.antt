-- The sets of states that follow a set, and the edges to them.
use Rattle.std.specs.Prelude.{◌≡◌, ℕ, ◌+◌, ◌<◌, ◌≤◌, ◌⊎◌, ◌↔◌, ◌&&◌, ◌||◌, not, Bool, true, false, List, [], ◌∷◌, ◌++◌, length, count_by, Some, IsSome, slice_index, slice_index_or, slice_set, if◌then◌else◌}
use Rattle.std.specs.List.{All}
use Rattle.rela_labels.specs.Letters.{has}
use Rattle.rela_names.specs.Shortlex.{IsBefore}
use Rattle.rela_nfa.specs.Automaton.{Automaton, Move, IsMove, moves_of}
use Rattle.rela_nfa.specs.StateSet.{Lists}
use Rattle.rela_subset.specs.Deterministic.{takes, target, IsOver, IsSplit}
use Rattle.rela_subset.specs.Sets.{NextFrom, ReachedBy}

-- by the two letters the same edges may be taken
abbrev pub AreTakenAlike : List Move → ℕ → ℕ → Type 0
AreTakenAlike moves j k = All (λ move. takes k move ≡ takes j move) moves

-- the letters of the rest by which the same edges may be taken from the states of the set as by j
abbrev pub IsAlike : Automaton → List ℕ → List Bool → ℕ → List Bool → Type 0
IsAlike a set rest j block = (k : ℕ) → (has block k ≡ true) ↔
    ((has rest k ≡ true) × All (λ q. AreTakenAlike (moves_of a q) j k) set)

-- the edge with this label and end is among the new ones, or the label has been joined to that of an old one
abbrev pub IsPutIn : List Bool → ℕ → List Move → List Move → Type 0
IsPutIn set to old new =
    (new ≡ old ++ record { label = Some set; to = to } ∷ [])
    ⊎ ((i : ℕ) × (joined : List Bool) × (i < length old)
    × (new ≡ slice_set old i (record { label = Some joined; to = to }))
    × ((move : Move) → (slice_index_or old i move).to ≡ to) × (length joined ≡ length set)
    × ((k : ℕ) (move : Move) → has joined k ≡ (takes k (slice_index_or old i move) || has set k)))

-- the sets found from a set stand behind the old ones, one for each of some letters, which ascend
pub record HasGrown (a : Automaton) (over : List Bool) (set : List ℕ) (old new : List (List ℕ))
    (letters : List ℕ) : Type 0 where
  pub more : List (List ℕ)
  pub appended : new ≡ old ++ more
  pub each : length more ≡ length letters
  pub rising : (i j : ℕ) → i < j → j < length letters → slice_index letters i
      < slice_index letters j
  pub read : All (λ letter. has over letter ≡ true) letters
  pub found : (i : ℕ) → i < length letters →
      Lists (NextFrom a set (slice_index letters i)) (slice_index_or more i [])

-- the letter leads from the set to the one of this number: an old one, or one found by that letter or an earlier one
pub record Comes (a : Automaton) (set : List ℕ) (old new : List (List ℕ)) (letters : List ℕ)
    (letter to : ℕ) : Type 0 where
  pub within : to < length new
  pub follows : Lists (NextFrom a set letter) (slice_index_or new to [])
  pub early : (to < length old) ⊎ ((i : ℕ) × (i < length letters) × (to ≡ length old + i)
      × (slice_index letters i ≤ letter))

-- the edge by the letter leads to where it comes
pub record Leads (a : Automaton) (set : List ℕ) (old new : List (List ℕ)) (letters : List ℕ)
    (moves : List Move) (letter : ℕ) : Type 0 where
  pub to : ℕ
  pub by : target moves letter ≡ Some to
  pub comes : Comes a set old new letters letter to

-- edges with labels of the size, to states below the number
pub record AreLabelled (size states : ℕ) (moves : List Move) : Type 0 where
  pub sized : All (IsMove size states) moves
  pub labelled : All (λ move. IsSome move.label) moves

-- the edges out of a set, for the letters that are over and not in the rest
pub record IsExpanded (a : Automaton) (over rest : List Bool) (set : List ℕ)
    (old new : List (List ℕ)) (moves : List Move) : Type 0 where
  pub letters : List ℕ
  pub grown : HasGrown a over set old new letters
  pub edges : AreLabelled (length over) (length new) moves
  pub split : (letter : ℕ) → count_by (takes letter) moves
      ≡ (if has over letter && not (has rest letter) then 1 else 0)
  pub leads : (letter : ℕ) → has over letter ≡ true → has rest letter ≡ false →
      Leads a set old new letters moves letter
  pub within : (letter : ℕ) → has rest letter ≡ true → has over letter ≡ true
  pub ahead : (letter : ℕ) → has rest letter ≡ true → All (λ found. found < letter) letters

-- the edges out of a set, for all letters that are over
abbrev pub IsExpandedOver : Automaton → List Bool → List ℕ → List (List ℕ) → List (List ℕ) →
    List Move → Type 0
IsExpandedOver a over set old new moves = (rest : List Bool)
    × ((letter : ℕ) → has rest letter ≡ false) × IsExpanded a over rest set old new moves

-- the word is not after the other
abbrev pub IsUpTo : List ℕ → List ℕ → Type 0
IsUpTo u v = (u ≡ v) ⊎ IsBefore u v

-- the letter leads from the set of one number to that of another, which the word reached first that comes to it
pub record Arrives (a : Automaton) (sets words : List (List ℕ)) (i letter to : ℕ) : Type 0 where
  pub within : to < length sets
  pub follows : Lists (NextFrom a (slice_index_or sets i []) letter) (slice_index_or sets to [])
  pub early : IsUpTo (slice_index_or words to []) (slice_index_or words i [] ++ letter ∷ [])

-- the edge by the letter leads to where it arrives
pub record Follows (a : Automaton) (sets words : List (List ℕ)) (i : ℕ) (moves : List Move)
    (letter : ℕ) : Type 0 where
  pub to : ℕ
  pub by : target moves letter ≡ Some to
  pub arrives : Arrives a sets words i letter to

-- the edges out of the set of this number
pub record IsOut (a : Automaton) (over : List Bool) (sets words : List (List ℕ)) (i : ℕ)
    (moves : List Move) : Type 0 where
  pub edges : AreLabelled (length over) (length sets) moves
  pub split : IsSplit over moves
  pub leads : (letter : ℕ) → has over letter ≡ true → Follows a sets words i moves letter

-- the sets so far and the word by which each was found, where those before `left` have been left by each letter
pub record AreFound (a : Automaton) (over : List Bool) (sets words : List (List ℕ))
    (left : ℕ) : Type 0 where
  pub each : length words ≡ length sets
  pub some : 0 < length sets
  pub first : slice_index_or words 0 [] ≡ []
  pub read : (i : ℕ) → i < length sets → IsOver over (slice_index_or words i [])
  pub reached : (i : ℕ) → i < length sets →
      Lists (ReachedBy a (slice_index_or words i [])) (slice_index_or sets i [])
  pub ascending : (i j : ℕ) → i < j → j < length sets →
      IsBefore (slice_index_or words i []) (slice_index_or words j [])
  pub grown : (i : ℕ) → 0 < i → i < length sets
      → (p : ℕ) × (letter : ℕ) × (p < left)
      × (slice_index_or words i [] ≡ slice_index_or words p [] ++ letter ∷ [])
  pub few : left ≤ length sets

-- the sets so far, and the edges of those that have been left
pub record IsExplored (a : Automaton) (over : List Bool) (sets : List (List ℕ))
    (edges : List (List Move)) : Type 0 where
  pub words : List (List ℕ)
  pub found : AreFound a over sets words (length edges)
  pub out : (i : ℕ) → i < length edges → IsOut a over sets words i (slice_index_or edges i [])
