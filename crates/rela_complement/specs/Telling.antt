-- Words that a continuation tells apart.
use Rattle.std.specs.Prelude.{◌≡◌, ℕ, ◌⊎◌, Bool, List, ◌++◌, length, All, AllPairs}
use Rattle.rela_nfa.specs.Automaton.{Automaton}
use Rattle.rela_nfa.specs.Runs.{Accepts}
use Rattle.rela_subset.specs.Deterministic.{IsOver}

-- just one of the two words is accepted with some continuation over the letters
abbrev pub IsTold : Automaton → List Bool → List ℕ → List ℕ → Type 0
IsTold a over v w =
    (z : List ℕ) × IsOver over z × ((Accepts a (v ++ z) × ¬ Accepts a (w ++ z))
    ⊎ (Accepts a (w ++ z) × ¬ Accepts a (v ++ z)))

-- n words over the letters, of which each two are told apart by a continuation
pub record TellsWords (a : Automaton) (over : List Bool) (n : ℕ) : Type 0 where
  pub words : List (List ℕ)
  pub count : length words ≡ n
  pub letters : All (IsOver over) words
  pub told : AllPairs (IsTold a over) words
