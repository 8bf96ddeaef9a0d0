-- Automata over blocks of symbols, and what they read as words of symbols.
use Rattle.std.specs.Prelude.{◌≡◌, ℕ, ◌↔◌, List, map}
use Rattle.rela_build.specs.Reading.{read_by}
use Rattle.rela_labels.specs.Partition.{block_count}
use Rattle.rela_nfa.specs.Automaton.{Automaton}
use Rattle.rela_nfa.specs.Runs.{Accepts}
use Rattle.rela_trans.specs.Machine.{Machine}
use Rattle.rela_trans.specs.Runs.{Relates}

-- the letters are blocks, and the words of symbols that are accepted are those of the set
pub record Recognises (blocks : List ℕ) (words : List ℕ → Type 0) (a : Automaton) : Type 0 where
  pub letters : a.letters ≡ block_count blocks
  pub language : (w : List ℕ) → Accepts a (map (read_by blocks) w) ↔ words w

-- the letters are blocks, and the pairs of words of symbols that are related are those of the relation
pub record Realises (blocks : List ℕ) (pairs : List ℕ → List ℕ → Type 0)
    (t : Machine) : Type 0 where
  pub letters : t.letters ≡ block_count blocks
  pub relation : (u v : List ℕ) → Relates (read_by blocks) t u v ↔ pairs u v

-- the letters are blocks, and of the pairs whose first word is one of the set those that are related are those of the relation
pub record RealisesFrom (blocks : List ℕ) (words : List ℕ → Type 0)
    (pairs : List ℕ → List ℕ → Type 0) (t : Machine) : Type 0 where
  pub letters : t.letters ≡ block_count blocks
  pub relation : (u v : List ℕ) → words u → Relates (read_by blocks) t u v ↔ pairs u v
