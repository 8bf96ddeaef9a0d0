-- A set of states, kept as a flag for each state and the list of the members.
use Rattle.std.specs.Prelude.{◌≡◌, ℕ, ◌+◌, ◌⊎◌, ◌↔◌, Bool, false, IsTrue, not, List, [], ◌∷◌, ◌++◌, length, count_by, Contains, slice_index_or, nat_eq}
use Rattle.std.specs.List.{IsDistinct}
use Rattle.std.specs.List.Sorted.{IsStrictlySortedBy}
use Rattle.std.specs.Ordering.{nat_cmp}

-- the flag is set for n, which it is for no number past the last
abbrev pub HasFlag : List Bool → ℕ → Type 0
HasFlag flags n = IsTrue (slice_index_or flags n false)

-- the members, and the number below which they lie
pub record Members : Type 0 where
  pub count : ℕ
  pub states : List ℕ

-- the flags of just the members are set, which are as many as the members
pub record AreFlagged (flags : List Bool) (members : List ℕ) : Type 0 where
  pub set : (n : ℕ) → HasFlag flags n ↔ Contains members n
  pub once : length members + count_by not flags ≡ length flags

-- the flags of just the members are set, and no member stands twice
pub record AreMarked (flags : List Bool) (members : List ℕ) : Type 0 where
  pub flagged : AreFlagged flags members
  pub distinct : IsDistinct nat_eq members

-- the numbers of P, each once, in ascending order
pub record Lists (P : ℕ → Type 0) (set : List ℕ) : Type 0 where
  pub ordered : IsStrictlySortedBy nat_cmp set
  pub members : (q : ℕ) → Contains set q ↔ P q

-- new is old with n put in at the end, unless old has it
abbrev pub Inserts : List ℕ → List ℕ → ℕ → Type 0
Inserts old new n = Contains new n × ((new ≡ old) ⊎ (new ≡ old ++ n ∷ []))

-- new is old, and then just those states of P that old lacks
pub record Adds (P : ℕ → Type 0) (old new : List ℕ) : Type 0 where
  pub longer : (more : List ℕ) × (new ≡ old ++ more)
  pub each : (m : ℕ) → Contains new m → Contains old m ⊎ P m
  pub all : (m : ℕ) → P m → Contains new m
