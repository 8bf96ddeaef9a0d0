-- A set of nodes, kept as a flag for each node and the list of the members.
use Rattle.std.specs.Prelude.{◌≡◌, ℕ, ◌+◌, ◌⊎◌, ◌↔◌, Bool, not, List, [], ◌∷◌, ◌++◌, length, count_by, Contains}
use Rattle.rela_graph.specs.Topology.{HasFlag}

-- the members, and the number below which they lie
pub record Members : Type 0 where
  pub count : ℕ
  pub nodes : List ℕ

-- the flags of just the members are set, and no member stands twice
pub record AreFlagged (flags : List Bool) (members : List ℕ) : Type 0 where
  pub set : (n : ℕ) → HasFlag flags n ↔ Contains members n
  pub once : length members + count_by not flags ≡ length flags

-- new is old with n put in at the end, unless old has it
abbrev pub Inserts : List ℕ → List ℕ → ℕ → Type 0
Inserts old new n = Contains new n × ((new ≡ old) ⊎ (new ≡ old ++ n ∷ []))
