-- What the fields of an automaton stand for.
use Rattle.std.specs.Prelude.{Bool, List, map}
use Rattle.std.specs.Option.{option_map}
use Rattle.std.specs.declared.vec.Vec.{Vec}
use Rattle.rela_nfa.specs.Automaton.{Move}
use Rattle.rela_nfa.specs.declared.edge.Edge.{Edge}

-- the edge, its label by its letters
abbrev pub move_of : {L : Type 0} → (L → List Bool) → Edge L → Move
move_of letters edge = record { label = option_map letters edge.label; to = edge.to }

-- the edges of each state
abbrev pub moves_in : {L A : Type 0} → (L → List Bool) → List (Vec (Edge L) A) → List (List Move)
moves_in letters edges = map (λ v. map (move_of letters) v.items) edges
