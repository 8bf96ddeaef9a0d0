-- The words that a transducer writes, and those that it writes where it reads the words of an automaton.
use Rattle.std.specs.Prelude.{◌≡◌, ℕ, ◌↔◌, Bool, List, length, map, Option, None, Some, Contains, slice_get, if◌then◌else◌}
use Rattle.std.specs.List.{flat_map, list_any}
use Rattle.std.specs.Option.{option_to_list}
use Rattle.rela_pairs.specs.Reachable.{AreDistinct}
use Rattle.rela_pairs.specs.declared.pair.Pair.{Pair}
use Rattle.rela_nfa.specs.Automaton.{Automaton, Move as Edge, states}
use Rattle.rela_nfa.specs.Runs.{Reach}
use Rattle.rela_trans.specs.Composition.{Covers}
use Rattle.rela_trans.specs.Machine.{Machine, Kind}
use Rattle.rela_trans.specs.Runs.{ReachR}
use Rattle.rela_trans.specs.declared.moves.Move.{Move}
use Rattle.rela_trans.specs.declared.moves.MoveKind.TheVariants.{Silent, In, Out, Same}

-- by some source the automaton reaches the left state, and the transducer the right state with v
abbrev pub ReachFrom : (ℕ → ℕ) → Automaton → Machine → Pair → List ℕ → Type 0
ReachFrom read a t x v = (source : List ℕ) × Reach a x.left (map read source)
    × ReachR read t x.right source v

-- one source of letters leads to both states
abbrev pub AreReachedFrom : Automaton → Machine → Pair → Type 0
AreReachedFrom a t x = (source : List ℕ) × (v : List ℕ) × Reach a x.left source
    × ReachR (λ k. k) t x.right source v

-- the states of r are the pairs that one source leads to, each once and each by the words that are written so
pub record IsImage (a : Automaton) (t : Machine) (pairs : List Pair) (r : Automaton) : Type 0 where
  pub count : length pairs ≡ states r
  pub distinct : AreDistinct pairs
  pub together : (x : Pair) → Contains pairs x → AreReachedFrom a t x
  pub all : (x : Pair) → AreReachedFrom a t x → Contains pairs x
  pub reached : (read : ℕ → ℕ) → Covers read a.letters → (k : ℕ) (x : Pair) → slice_get pairs k
      ≡ Some x → (v : List ℕ) → Reach r k (map read v) ↔ ReachFrom read a t x v

-- the edge by what a move of this kind writes; none where it reads a letter of an empty set, and so can't be made
abbrev pub written_by : Kind → ℕ → Option Edge
written_by Silent to = Some (record { label = None; to = to })
written_by (In set) to = if list_any (λ b. b) set
    then Some (record { label = None; to = to }) else None
written_by (Out set) to = Some (record { label = Some set; to = to })
written_by (Same set) to = Some (record { label = Some set; to = to })

-- the edges by what these moves write
abbrev pub written_edges : List (Move (List Bool)) → List Edge
written_edges moves = flat_map (λ m. option_to_list (written_by m.kind m.to)) moves

-- the automaton reads what the transducer writes, by the same states
pub record IsWritten (t : Machine) (r : Automaton) : Type 0 where
  pub letters : r.letters ≡ t.letters
  pub start : r.start ≡ t.start
  pub finals : r.finals ≡ t.finals
  pub edges : r.edges ≡ map written_edges t.moves
