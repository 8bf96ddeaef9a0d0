-- Letters that no label tells apart, merged into classes. A list has each letter's class.
use Rattle.std.specs.Prelude.{◌≡◌, ℕ, ◌^◌, ◌<◌, Bool, List, length}
use Rattle.std.specs.List.{All}
use Rattle.std.specs.Option.{ForSome}
use Rattle.rela_labels.specs.Letters.{has}
use Rattle.rela_labels.specs.Partition.{Together}
use Rattle.rela_nfa.specs.Automaton.{Automaton, Move}
use Rattle.rela_nfa.specs.Relabelling.{IsRelabelled, relabelled}

-- of the letters of one class the set has all or none
abbrev pub IsUnion : List ℕ → List Bool → Type 0
IsUnion classes set =
    (j k : ℕ) → j < length classes → k < length classes → Together classes j k → has set j
    ≡ has set k

-- each label is a union of classes
abbrev pub HaveUnions : List ℕ → List Move → Type 0
HaveUnions classes moves = All (λ move. ForSome move.label (IsUnion classes)) moves

-- each label of the automaton is
abbrev pub AreUnions : List ℕ → Automaton → Type 0
AreUnions classes a = All (HaveUnions classes) a.edges

-- The automaton m and the set have classes for letters, and are those of a with each class read as one of its letters.
-- With each letter read as its class they are those of a again.
pub record IsMerged (a : Automaton) (over : List Bool) (classes : List ℕ) (m : Automaton)
    (merged : List Bool) : Type 0 where
  pub few : length classes < 2 ^ 32
  pub letters : List ℕ
  pub by_letters : IsRelabelled letters a m
  pub by_classes : IsRelabelled classes m a
  pub over_by_letters : merged ≡ relabelled letters over
  pub over_by_classes : over ≡ relabelled classes merged
