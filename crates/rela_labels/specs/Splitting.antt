-- Splitting blocks: each symbol has a key, and the members that leave a block get a fresh one.
use Rattle.std.specs.Prelude.{◌≡◌, ℕ, ◌^◌, ◌<◌, ◌≤◌, ◌⊎◌, List, All, Contains, length, slice_index}

-- The key of each symbol, and for each key the one that its members last moved to, or 0 where none
-- did.
pub record IsKeyed (keys moved : List ℕ) : Type 0 where
  pub some_symbol : 0 < length keys
  pub few : length keys < 2 ^ 32
  pub keys_below : All (λ key. key < length moved) keys
  pub moved_below : All (λ key. key < length moved) moved

-- The keys from `first` on are fresh, and no two older keys move to the same one.
pub record IsFresh (first : ℕ) (moved : List ℕ) : Type 0 where
  pub longer : first ≤ length moved
  pub below : All (λ key. key < length moved) moved
  pub apart : (j k : ℕ) → j < first → k < first → first ≤ slice_index moved j
      → slice_index moved j ≡ slice_index moved k → j ≡ k

-- a member's key moves, and any other symbol's stays
abbrev pub IsMoved : List ℕ → List ℕ → List ℕ → List ℕ → ℕ → Type 0
IsMoved members moved keys keys' s =
    (Contains members s × (slice_index keys' s ≡ slice_index moved (slice_index keys s)))
    ⊎ ((Contains members s → ⊥) × (slice_index keys' s ≡ slice_index keys s))
