-- The words that one of two automata accepts and the other doesn't, and the pairs of sets of their states that are reached before.
use Rattle.std.specs.Prelude.{◌≡◌, ℕ, ◌<◌, ◌⊎◌, List, length, ⊤}
use Rattle.std.specs.List.{All, AllPairs}
use Rattle.rela_names.specs.Shortlex.{IsBefore}
use Rattle.rela_nfa.specs.Automaton.{Automaton}
use Rattle.rela_nfa.specs.Runs.{Accepts}
use Rattle.rela_subset.specs.Subsets.{AreApart}
use Rattle.rela_compare.specs.declared.verdict.Verdict.{Verdict}
use Rattle.rela_compare.specs.declared.verdict.Verdict.TheVariants.{Same, Differ}
use Rattle.rela_compare.specs.declared.verdict.Which.{Which}
use Rattle.rela_compare.specs.declared.verdict.Which.TheVariants.{First, Second}

-- the first accepts the word, and the second doesn't
abbrev pub IsInFirstAlone : Automaton → Automaton → List ℕ → Type 0
IsInFirstAlone a b word = Accepts a word × ¬ Accepts b word

-- one of the two accepts the word, and the other doesn't
abbrev pub IsInOneAlone : Automaton → Automaton → List ℕ → Type 0
IsInOneAlone a b word = IsInFirstAlone a b word ⊎ IsInFirstAlone b a word

-- the automaton on this side accepts the word, and the other doesn't
abbrev pub IsOnSide : Automaton → Automaton → List ℕ → Which → Type 0
IsOnSide a b word First = IsInFirstAlone a b word
IsOnSide a b word Second = IsInFirstAlone b a word

-- P holds of the word and the side, if the verdict has them
abbrev pub IfDiffer : Verdict → (List ℕ → Which → Type 0) → Type 0
IfDiffer Same P = ⊤
IfDiffer (Differ word side) P = P word side

-- words that do not come after one of P reach at least n pairs of a set of states of a and one of b: for each
-- two of n such words some state of a or of b is reached by one of the two words alone
pub record ReachPairsBefore (a b : Automaton) (P : List ℕ → Type 0) (n : ℕ) : Type 0 where
  pub words : List (List ℕ)
  pub count : length words ≡ n
  pub letters : All (All (λ letter. letter < a.letters)) words
  pub apart : AllPairs (λ v w. AreApart a v w ⊎ AreApart b v w) words
  pub early : All (λ w. (v : List ℕ) → P v → ¬ IsBefore v w) words
