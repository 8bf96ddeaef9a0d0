-- The pairs of words that one relation has and another may lack, by an automaton of their acts.
use Rattle.std.specs.Prelude.{◌≡◌, ℕ, ◌⊎◌, List, Contains}
use Rattle.std.specs.List.{All}
use Rattle.rela_nfa.specs.Automaton.{Automaton}
use Rattle.rela_nfa.specs.Runs.{Accepts}
use Rattle.rela_restriction.specs.Acts.{Act, AreOfLetters, act_letters, input_of, output_of}

-- the number of letters of symbols, and an automaton that reads acts
pub record Excess : Type 0 where
  pub letters : ℕ
  pub acts : Automaton

-- acts that the automaton accepts read the first word and write the second
pub record IsInExcess (read : ℕ → ℕ) (x : Excess) (u v : List ℕ) : Type 0 where
  pub word : List Act
  pub input : input_of word ≡ u
  pub output : output_of word ≡ v
  pub letters : AreOfLetters read x.letters word
  pub accepted : Accepts x.acts (act_letters read x.letters word)

-- each pair of the first relation is one of the second, or one of the excess
abbrev pub Covers : (ℕ → ℕ) → (List ℕ → List ℕ → Type 0) → (List ℕ → List ℕ → Type 0) →
    Excess → Type 0
Covers read R S x = (u v : List ℕ) → R u v → S u v ⊎ IsInExcess read x u v

-- the word's symbols are read as letters of the list
abbrev pub IsReadAs : (ℕ → ℕ) → List ℕ → List ℕ → Type 0
IsReadAs read letters word = All (λ s. Contains letters (read s)) word
