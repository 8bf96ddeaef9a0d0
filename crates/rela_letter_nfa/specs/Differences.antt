-- The words by which two automata differ, and the pairs of sets of their states that are reached before.
use Rattle.std.specs.Prelude.{◌≡◌, ℕ, ◌⊎◌, ◌↔◌, List, length}
use Rattle.std.specs.List.{All, AllPairs}
use Rattle.rela_names.specs.Shortlex.{IsBefore}
use Rattle.rela_letter_nfa.specs.LetterAutomaton.{LetterAutomaton}
use Rattle.rela_letter_nfa.specs.Runs.{Accepts, Reach}
use Rattle.rela_letter_nfa.specs.declared.difference.Sought.{Sought}
use Rattle.rela_letter_nfa.specs.declared.difference.Sought.TheVariants.{FirstAlone, EitherAlone}
use Rattle.rela_letter_nfa.specs.declared.difference.Which.{Which}
use Rattle.rela_letter_nfa.specs.declared.difference.Which.TheVariants.{First, Second}

-- of two claims the first alone holds, or one of the two alone
abbrev pub IsSought : Sought → Type 0 → Type 0 → Type 0
IsSought FirstAlone P Q = P × ¬ Q
IsSought EitherAlone P Q = (P × ¬ Q) ⊎ (Q × ¬ P)

-- what holds of the two claims otherwise
abbrev pub IsAgreed : Sought → Type 0 → Type 0 → Type 0
IsAgreed FirstAlone P Q = P → Q
IsAgreed EitherAlone P Q = P ↔ Q

-- the word is one of those that are sought
abbrev pub Differs : Sought → LetterAutomaton → LetterAutomaton → List ℕ → Type 0
Differs sought a b word = IsSought sought (Accepts a word) (Accepts b word)

-- of two claims the one on this side alone holds
abbrev pub IsAlone : Which → Type 0 → Type 0 → Type 0
IsAlone First P Q = P × ¬ Q
IsAlone Second P Q = Q × ¬ P

-- the automaton on this side accepts the word, and the other doesn't
abbrev pub IsOnSide : LetterAutomaton → LetterAutomaton → List ℕ → Which → Type 0
IsOnSide a b word side = IsAlone side (Accepts a word) (Accepts b word)

-- some state is reached by one of the two words alone
abbrev pub AreApart : LetterAutomaton → List ℕ → List ℕ → Type 0
AreApart a v w = (q : ℕ) × ((Reach a q v × ¬ Reach a q w) ⊎ (Reach a q w × ¬ Reach a q v))

-- words that do not come after one of P reach at least n pairs of a set of states of a and one of b: for each
-- two of n such words some state of a or of b is reached by one of the two words alone
pub record ReachPairsBefore (a b : LetterAutomaton) (P : List ℕ → Type 0) (n : ℕ) : Type 0 where
  pub words : List (List ℕ)
  pub count : length words ≡ n
  pub apart : AllPairs (λ v w. AreApart a v w ⊎ AreApart b v w) words
  pub early : All (λ w. (v : List ℕ) → P v → ¬ IsBefore v w) words
