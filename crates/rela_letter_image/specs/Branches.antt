-- Silent branches: states that a transducer passes reading and writing nothing, to one of several others.
use Rattle.std.specs.Prelude.{◌≡◌, ◌≤◌, ℕ, ◌<◌, Bool, List, [], ◌∷◌, Option, None, Some, Contains, length, map, slice_index_or}
use Rattle.std.specs.List.{All, flat_map}
use Rattle.std.specs.declared.vec.Vec.{Vec}
use Rattle.rela_trans.specs.Construction.{silent}
use Rattle.rela_trans.specs.Machine.{Machine, IsFinal, machine_states, moves_of}
use Rattle.rela_trans.specs.Runs.{Follow, Step, inputs, outputs}
use Rattle.rela_trans.specs.declared.moves.Move.{Move}
use Rattle.rela_trans.specs.declared.moves.MoveKind.TheVariants.{Silent}

-- the move reads nothing and writes nothing
abbrev pub IsSilent : Move (List Bool) → Type 0
IsSilent move = move.kind ≡ Silent

-- the state is not final, and each of its moves is silent
pub record IsBranch (t : Machine) (q : ℕ) : Type 0 where
  pub other : ¬ IsFinal t q
  pub silent : All IsSilent (moves_of t q)

-- each of the list is where a silent move from the one before it leads; they go from p to q
abbrev pub BySilents : Machine → ℕ → List ℕ → ℕ → Type 0
BySilents t p [] q = p ≡ q
BySilents t p (r ∷ rest) q = Contains (moves_of t p) (silent r) × BySilents t r rest q

-- they read and write the same, and are no more moves
pub record AreNoMore (steps others : List Step) : Type 0 where
  pub reads : inputs others ≡ inputs steps
  pub writes : outputs others ≡ outputs steps
  pub short : length others ≤ length steps

-- the moves lead on from one of these states too, or no more moves that read and write the same
abbrev pub GoOn : (ℕ → ℕ) → Machine → List ℕ → List Step → ℕ → Type 0
GoOn read t ends steps f = (e : ℕ) × Contains ends e × (rest : List Step)
    × Follow read t e rest f × AreNoMore steps rest

-- silent moves lead to each of the states from q, and all moves from q to a final state go on from one of them
pub record StandFor (t : Machine) (ends : List ℕ) (q : ℕ) : Type 0 where
  pub below : (e : ℕ) → Contains ends e → e < machine_states t
  pub led : (e : ℕ) → Contains ends e → (path : List ℕ) × BySilents t q path e
  pub all : (read : ℕ → ℕ) (steps : List Step) (f : ℕ) → Follow read t q steps f → IsFinal t f
      → GoOn read t ends steps f

-- for each state those that stand for it
abbrev pub AreEnds : Machine → (ℕ → List ℕ) → Type 0
AreEnds t ends = (q : ℕ) → q < machine_states t → StandFor t (ends q) q

-- those that are kept, and the state alone where none are
abbrev pub kept_or : {A : Type 0} → Option (Vec ℕ A) → ℕ → List ℕ
kept_or None q = q ∷ []
kept_or (Some kept) q = kept.items

-- those that stand for the state, by those that are kept for each
abbrev pub ends_of : {A : Type 0} → List (Option (Vec ℕ A)) → ℕ → List ℕ
ends_of kept q = kept_or (slice_index_or kept q None) q

-- the states that stand for the one to which the move leads
abbrev pub ends_at : (ℕ → List ℕ) → Move (List Bool) → List ℕ
ends_at ends move = ends move.to

abbrev pub led_to : Move (List Bool) → ℕ → Move (List Bool)
led_to move to = record { kind = move.kind; to = to }

-- in place of the move, those that lead at once to the states that stand for its end
abbrev pub passed_on : (ℕ → List ℕ) → Move (List Bool) → List (Move (List Bool))
passed_on ends move = map (led_to move) (ends_at ends move)

-- the same machine, of which each move is passed on
abbrev pub passing : (ℕ → List ℕ) → Machine → Machine
passing ends t = record {
  letters = t.letters;
  start = t.start;
  finals = t.finals;
  moves = map (flat_map (passed_on ends)) t.moves;
}
