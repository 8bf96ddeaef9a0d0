-- The states to which words over some letters lead, as a search finds them.
use Rattle.std.specs.Prelude.{◌≡◌, ◌⊎◌, ◌+◌, ℕ, Bool, true, not, List, length, count_by, Option, Contains}
use Rattle.std.specs.Option.{ForSome}
use Rattle.rela_labels.specs.Letters.{has}
use Rattle.rela_nfa.specs.Automaton.{Move}
use Rattle.rela_nfa.specs.StateSet.{HasFlag}

-- an edge with the label is silent, or may be taken by a letter of `over`
abbrev pub IsOpen : List Bool → Option (List Bool) → Type 0
IsOpen over label = ForSome label (λ set. (k : ℕ) × (has over k ≡ true) × (has set k ≡ true))

-- one of the edges, which is open, leads to q
abbrev pub OpensTo : List Bool → List Move → ℕ → Type 0
OpensTo over moves q = (move : Move) × Contains moves move × IsOpen over move.label × (move.to ≡ q)

-- the states of P are flagged too; those of them that were not before wait now, beside the states that waited
pub record Finds (P : ℕ → Type 0) (old : List Bool) (waited : List ℕ) (new : List Bool)
    (waiting : List ℕ) : Type 0 where
  pub count : length new ≡ length old
  pub kept : (q : ℕ) → HasFlag old q → HasFlag new q
  pub still : (q : ℕ) → Contains waited q → Contains waiting q
  pub fresh : (q : ℕ) → HasFlag new q → HasFlag old q ⊎ Contains waiting q
  pub all : (q : ℕ) → P q → HasFlag new q
  pub only : (q : ℕ) → Contains waiting q → Contains waited q ⊎ P q
  pub room : length waiting + count_by not new ≡ length waited + count_by not old
