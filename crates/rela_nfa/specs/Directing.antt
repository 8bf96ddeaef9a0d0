-- Edges that are made by their labels, and lead to the states of a list one after the other.
use Rattle.std.specs.Prelude.{Bool, ℕ, List, [], ◌∷◌, ◌++◌, length, drop, Option, None, Some, if◌then◌else◌}
use Rattle.std.specs.List.{flat_map, list_any}
use Rattle.rela_pairs.specs.declared.pair.Pair.{Pair}
use Rattle.rela_nfa.specs.Automaton.{Automaton, Move, moves_of}
use Rattle.rela_nfa.specs.Meeting.{common}

abbrev pub Label : Type 0
Label = Option (List Bool)

-- edges by these labels to these states, as many as there are of both
abbrev pub directed : List Label → List ℕ → List Move
directed [] targets = []
directed (label ∷ labels) [] = []
directed (label ∷ labels) (t ∷ targets) = record { label = label; to = t } ∷ directed labels targets

-- the edges, and behind them one by each of these labels, to the targets on from the one that has as many before it as there are edges
abbrev pub extended : List Move → List Label → List ℕ → List Move
extended edges labels targets = edges ++ directed labels (drop (length edges) targets)

-- no label, where there is none
abbrev pub silent_label : Label → List Label
silent_label None = None ∷ []
silent_label (Some s) = []

abbrev pub silent_labels : List Move → List Label
silent_labels moves = flat_map (λ m. silent_label m.label) moves

-- the common letters, where there are some
abbrev pub shared_label : Label → Label → List Label
shared_label None other = []
shared_label (Some s) None = []
shared_label (Some s) (Some t) = if list_any (λ b. b) (common s t)
    then Some (common s t) ∷ [] else []

abbrev pub labels_with : Label → List Move → List Label
labels_with label others = flat_map (λ n. shared_label label n.label) others

-- the labels of the edges of the two together that leave a pair
abbrev pub joint_labels : Automaton → Automaton → Pair → List Label
joint_labels a b x =
    silent_labels (moves_of a x.left) ++ silent_labels (moves_of b x.right) ++ flat_map (λ m.
    labels_with m.label (moves_of b x.right)) (moves_of a x.left)
