-- Whether there is an edge, and its least letter.
use Rattle.std.specs.Prelude.{◌≡◌, ℕ, ◌≤◌, min, true, Bool, List, Option, None, Some}
use Rattle.rela_labels.specs.Letters.{has}
use Rattle.rela_nfa.specs.Automaton.{Automaton}
use Rattle.rela_nfa.specs.Runs.{HasStep}
use Rattle.rela_witness.specs.declared.sources.Kind.{Kind}
use Rattle.rela_witness.specs.declared.sources.Kind.TheVariants.{Silent, Lettered}

-- no label, or one with a letter
abbrev pub IsOfKind : Kind → Option (List Bool) → Type 0
IsOfKind Silent None = Unit {0}
IsOfKind Silent (Some set) = ⊥
IsOfKind Lettered None = ⊥
IsOfKind Lettered (Some set) = (k : ℕ) × (has set k ≡ true)

-- an edge leads from p to q silently, or by some letter
abbrev pub HasEdge : Automaton → Kind → ℕ → ℕ → Type 0
HasEdge a Silent p q = HasStep a p None q
HasEdge a Lettered p q = (k : ℕ) × HasStep a p (Some k) q

-- the least number of P, and none where P has none
abbrev pub IsLeast : (ℕ → Type 0) → Option ℕ → Type 0
IsLeast P None = (k : ℕ) → ¬ P k
IsLeast P (Some least) = P least × ((k : ℕ) → P k → least ≤ k)

-- the lesser of two, or the only one
abbrev pub lesser_of : Option ℕ → Option ℕ → Option ℕ
lesser_of None other = other
lesser_of (Some j) None = Some j
lesser_of (Some j) (Some k) = Some (min j k)
