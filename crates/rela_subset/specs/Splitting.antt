-- The letters of a set that are left, where blocks of them are taken one after the other.
use Rattle.std.specs.Prelude.{◌≡◌, ℕ, ◌<◌, Bool, true, false, List, [], ◌∷◌, length, Option, IfNone, IfSome, slice_set, if◌then◌else◌}
use Rattle.std.specs.List.Sorted.{IsNonDecreasingBy}
use Rattle.rela_labels.specs.Letters.{has}
use Rattle.rela_nfa.specs.Automaton.{Move}
use Rattle.rela_subset.specs.Outgoing.{HasEnd}
use Rattle.rela_subset.specs.declared.letter_edge.LetterEdge.{LetterEdge}

-- the rest, and those letters of the edges that are over
abbrev pub letters_left : List Bool → List LetterEdge → List Bool → List Bool
letters_left over [] rest = rest
letters_left over (edge ∷ later) rest = if has over edge.letter
    then slice_set (letters_left over later rest) edge.letter true else letters_left over later rest

-- edges that are sorted out, and the letters that are left: all, and those of them that no edge by one letter has
pub record Splitting : Type 0 where
  pub singles : List LetterEdge
  pub others : List Move
  pub rest : List Bool
  pub left : List Bool

-- the least letter of the set, and none where it is empty
pub record IsLeastOf (set : List Bool) (least : Option ℕ) : Type 0 where
  pub none : IfNone least ((k : ℕ) → has set k ≡ false)
  pub member : IfSome least (λ m. has set m ≡ true)
  pub before : IfSome least (λ m. (k : ℕ) → k < m → has set k ≡ false)

-- the edges to come are among those by one letter, in ascending order of it, and no such edge has a letter of the rest
pub record AreSplit (over : List Bool) (singles coming : List LetterEdge) (rest : List Bool)
    (least : Option ℕ) : Type 0 where
  pub size : length rest ≡ length over
  pub rising : IsNonDecreasingBy (λ edge. edge.letter) coming
  pub among : (letter q : ℕ) → HasEnd coming letter q → HasEnd singles letter q
  pub apart : (letter q : ℕ) → has rest letter ≡ true → ¬ HasEnd singles letter q
  pub first : IsLeastOf rest least
