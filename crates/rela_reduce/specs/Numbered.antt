-- An automaton whose labels are numbered.
use Rattle.std.specs.Prelude.{◌≡◌, ℕ, ◌<◌, Bool, List, [], All, length, map, slice_index_or}
use Rattle.std.specs.Option.{ForSome, option_map}
use Rattle.rela_nfa.specs.Automaton.{Automaton, Move}
use Rattle.rela_reduce.specs.declared.arrow.Arrow.{Arrow}

-- the number of labels, the start, and for each state whether it is final and which arrows leave it
pub record Plain : Type 0 where
  pub labels : ℕ
  pub start : ℕ
  pub finals : List Bool
  pub arrows : List (List Arrow)

-- the arrow's label has a number, and it leads to a state
pub record IsArrow (labels states : ℕ) (arrow : Arrow) : Type 0 where
  pub known : ForSome arrow.label (λ k. k < labels)
  pub leads : arrow.to < states

-- one list of arrows for each state, the start a state, and each arrow one of this automaton's
pub record IsPlain (p : Plain) : Type 0 where
  pub each : length p.arrows ≡ length p.finals
  pub starts : p.start < length p.finals
  pub within : All (All (IsArrow p.labels (length p.finals))) p.arrows

-- the edge of an arrow, where the labels have these numbers
abbrev pub labelled : List (List Bool) → Arrow → Move
labelled labels arrow = record {
  label = option_map (λ k. slice_index_or labels k []) arrow.label;
  to = arrow.to;
}

-- the edges of the arrows of each state
abbrev pub edges_by : List (List Bool) → List (List Arrow) → List (List Move)
edges_by labels arrows = map (map (labelled labels)) arrows

-- the automaton with these labels, over this number of letters
abbrev pub automaton_of : ℕ → List (List Bool) → Plain → Automaton
automaton_of letters labels p = record {
  letters = letters;
  start = p.start;
  finals = p.finals;
  edges = edges_by labels p.arrows;
}
