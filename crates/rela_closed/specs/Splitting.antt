-- The letters of a set in blocks, by each of which the same edges may be taken.
use Rattle.std.specs.Prelude.{◌≡◌, ℕ, ◌⊎◌, Bool, true, false, List, length, Contains}
use Rattle.std.specs.List.{All}
use Rattle.std.specs.Option.{ForSome}
use Rattle.rela_labels.specs.Letters.{has}
use Rattle.rela_nfa.specs.Automaton.{Automaton, Move}
use Rattle.rela_closed.specs.Sets.{Leads}

-- what the one letter leads to from the sets, the other leads to
abbrev pub LeadAlike : List Automaton → List (List ℕ) → ℕ → ℕ → Type 0
LeadAlike automata sets j k =
    (next : List (List ℕ)) → Leads automata sets j next → Leads automata sets k next

-- each label has both of the letters or neither
abbrev pub AreTogether : List (List Bool) → ℕ → ℕ → Type 0
AreTogether labels j k = All (λ label. has label k ≡ has label j) labels

-- labels of edges, sorted out: the letters that some of them have alone, and the others
pub record Sorted : Type 0 where
  pub alone : List Bool
  pub others : List (List Bool)

-- the label is one of the others, or those of its letters that are over are alone
abbrev pub IsSorted : List Bool → Sorted → List Bool → Type 0
IsSorted over sorted label = Contains sorted.others label
    ⊎ ((k : ℕ) → has over k ≡ true → has label k ≡ true → has sorted.alone k ≡ true)

-- so is each label of the edges
abbrev pub AreSorted : List Bool → Sorted → List Move → Type 0
AreSorted over sorted moves = All (λ move. ForSome move.label (IsSorted over sorted)) moves

-- what was sorted out before is so still
pub record IsMore (over : List Bool) (old new : Sorted) : Type 0 where
  pub alone : (k : ℕ) → has over k ≡ true → has old.alone k ≡ true → has new.alone k ≡ true
  pub others : (label : List Bool) → Contains old.others label → Contains new.others label

-- the letters that remain, those of them that the labels tell apart, and these labels
pub record Splitting : Type 0 where
  pub left : List Bool
  pub rest : List Bool
  pub labels : List (List Bool)

-- whether the letter remains
abbrev pub remains : Splitting → ℕ → Bool
remains splitting k = has splitting.left k

-- letters of the rest that the labels don't tell apart lead alike from the sets
abbrev pub AreTold : List Automaton → List (List ℕ) → Splitting → Type 0
AreTold automata sets splitting = (j k : ℕ) → has splitting.rest j ≡ true →
    has splitting.rest k ≡ true → AreTogether splitting.labels j k → LeadAlike automata sets j k

-- letters that remain: this one, and others of the rest that the labels don't tell from it
pub record IsBlock (splitting : Splitting) (letter : ℕ) (block : List Bool) : Type 0 where
  pub sized : length block ≡ length splitting.rest
  pub member : has block letter ≡ true
  pub within : (k : ℕ) → has block k ≡ true → remains splitting k ≡ true
  pub alike : (k : ℕ) → has block k ≡ true → (k ≡ letter) ⊎ ((has splitting.rest letter ≡ true)
      × (has splitting.rest k ≡ true) × AreTogether splitting.labels letter k)

-- none remain but those that did before, and all of these but for letters of the block
pub record AreFewer (block : List Bool) (old new : Splitting) : Type 0 where
  pub labels : new.labels ≡ old.labels
  pub size : length new.rest ≡ length old.rest
  pub left : (k : ℕ) → remains new k ≡ true → remains old k ≡ true
  pub rest : (k : ℕ) → has new.rest k ≡ true → has old.rest k ≡ true
  pub gone : (k : ℕ) → remains old k ≡ true → remains new k ≡ false → has block k ≡ true
