-- A complement that is kept, as data, and what is known of it.
use Rattle.std.specs.Prelude.{ℕ, ◌+◌, Bool, List}
use Rattle.rela_build.specs.Complement.{IsComplement}
use Rattle.rela_nfa.specs.Automaton.{Automaton}
use Rattle.rela_complement.specs.Telling.{TellsWords}

-- the part, the letters of the complement's words, the complement, and the limit under which it was made
pub record Kept : Type 0 where
  pub part : Automaton
  pub over : List Bool
  pub complement : Automaton
  pub limit : ℕ

-- it is the complement of the part over these letters, and the part tells no more words than the limit
pub record IsKept (k : Kept) : Type 0 where
  pub complement : IsComplement k.part k.over k.complement
  pub within : ¬ TellsWords k.part k.over (k.limit + 1)
