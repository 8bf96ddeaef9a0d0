-- States that a transducer passes without a choice, reading and writing nothing.
use Rattle.std.specs.Prelude.{◌≡◌, ◌⊎◌, ℕ, ◌<◌, Bool, false, IsTrue, List, [], ◌∷◌, slice_index, slice_index_or}
use Rattle.std.specs.List.{Contains}
use Rattle.rela_trans.specs.Construction.{silent}
use Rattle.rela_trans.specs.Machine.{Machine, machine_states, moves_of, IsFinal}
use Rattle.rela_trans.specs.declared.moves.Move.{Move}

-- the state is not final, and its only move is silent, to r
abbrev pub IsDetour : Machine → ℕ → ℕ → Type 0
IsDetour t q r = (¬ IsFinal t q) × (moves_of t q ≡ silent r ∷ [])

-- each of the list is where the detour before it leads; it goes from p to q
abbrev pub ByDetours : Machine → ℕ → List ℕ → ℕ → Type 0
ByDetours t p [] q = p ≡ q
ByDetours t p (r ∷ rest) q = IsDetour t p r × ByDetours t r rest q

-- detours lead from p to q, which may be p
abbrev pub Detours : Machine → ℕ → ℕ → Type 0
Detours t p q = (path : List ℕ) × ByDetours t p path q

-- the state is no detour, unless detours lead back to it
abbrev pub IsEnd : Machine → ℕ → Type 0
IsEnd t q = (r : ℕ) → IsDetour t q r → Detours t r q

-- the move, its end moved on to the one that stands for it
abbrev pub redirected : List ℕ → Move (List Bool) → Move (List Bool)
redirected ends move = record { kind = move.kind; to = slice_index ends move.to }

-- the flag is set
abbrev pub IsPassed : List Bool → ℕ → Type 0
IsPassed flags q = IsTrue (slice_index_or flags q false)

-- from the states of the path, which had no flag and now have one, detours lead to the state, which has one too
pub record IsWalked (t : Machine) (old new : List Bool) (path : List ℕ) (end : ℕ) : Type 0 where
  pub state : end < machine_states t
  pub passed : IsPassed new end
  pub kept : (p : ℕ) → IsPassed old p → IsPassed new p
  pub only : (p : ℕ) → IsPassed new p → IsPassed old p ⊎ Contains path p
  pub fresh : (p : ℕ) → Contains path p → (p < machine_states t)
      × (¬ IsPassed old p) × IsPassed new p
  pub led : (p : ℕ) → Contains path p → Detours t p end
  pub onward : (p r : ℕ) → Contains path p → IsDetour t p r → Detours t r end
