-- The sets of states of the union of two automata, in which the states of the first and then those of the second have copies.
use Rattle.std.specs.Prelude.{◌≡◌, ℕ, ◌+◌, ◌<◌, ◌⊎◌, ◌↔◌, List, [], Contains}
use Rattle.rela_nfa.specs.Automaton.{Automaton, IsFinal, states}
use Rattle.rela_nfa.specs.Runs.{Accepts, Reach}
use Rattle.rela_compare.specs.declared.sought.Sought.{Sought}
use Rattle.rela_compare.specs.declared.sought.Sought.TheVariants.{FirstAlone, EitherAlone}

-- a state of the set is the copy of a final one, where the copies begin with this number
abbrev pub HasFinalFrom : Automaton → ℕ → List ℕ → Type 0
HasFinalFrom a from set = (q : ℕ) × Contains set (from + q) × IsFinal a q

-- of two claims the first alone holds, or one of the two alone
abbrev pub IsSought : Sought → Type 0 → Type 0 → Type 0
IsSought FirstAlone P Q = P × ¬ Q
IsSought EitherAlone P Q = (P × ¬ Q) ⊎ (Q × ¬ P)

-- what holds of the two claims otherwise
abbrev pub IsAgreed : Sought → Type 0 → Type 0 → Type 0
IsAgreed FirstAlone P Q = P → Q
IsAgreed EitherAlone P Q = P ↔ Q

-- the word is one of those that are sought
abbrev pub Differs : Sought → Automaton → Automaton → List ℕ → Type 0
Differs sought a b word = IsSought sought (Accepts a word) (Accepts b word)

-- u has a start of its own, which the empty word alone reaches, and copies of the states of a and of b
pub record AreCopied (a b u : Automaton) : Type 0 where
  pub letters : u.letters ≡ a.letters
  pub start : (w : List ℕ) → Reach u 0 w ↔ (w ≡ [])
  pub first : (q : ℕ) (w : List ℕ) → q < states a → Reach u (1 + q) w ↔ Reach a q w
  pub second : (q : ℕ) (w : List ℕ) → Reach u (1 + states a + q) w ↔ Reach b q w
