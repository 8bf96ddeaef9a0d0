-- What the fields of a transducer stand for.
use Rattle.std.specs.Prelude.{ℕ, Bool, List, map}
use Rattle.std.specs.declared.vec.Vec.{Vec}
use Rattle.rela_trans.specs.Machine.{Kind}
use Rattle.rela_trans.specs.declared.moves.Move.{Move}
use Rattle.rela_trans.specs.declared.moves.MoveKind.{MoveKind}
use Rattle.rela_trans.specs.declared.moves.MoveKind.TheVariants.{Silent, In, Out, Same}

-- the kind, its set by its letters
abbrev pub kind_of : {L : Type 0} → (L → List Bool) → MoveKind L → Kind
kind_of letters Silent = Silent
kind_of letters (In set) = In (letters set)
kind_of letters (Out set) = Out (letters set)
kind_of letters (Same set) = Same (letters set)

-- the move, its set by its letters
abbrev pub move_of : {L : Type 0} → (L → List Bool) → Move L → Move (List Bool)
move_of letters move = record { kind = kind_of letters move.kind; to = move.to }

-- the moves of each state
abbrev pub moves_in : {L A : Type 0} → (L → List Bool) → List (Vec (Move L) A) →
    List (List (Move (List Bool)))
moves_in letters moves = map (λ v. map (move_of letters) v.items) moves

-- the items of each
abbrev pub lists_of : {A : Type 0} → List (Vec ℕ A) → List (List ℕ)
lists_of lists = map (λ list. list.items) lists
