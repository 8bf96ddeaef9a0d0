-- What is reached from some nodes by edges.
use Rattle.std.specs.Prelude.{◌≡◌, ℕ, ◌⊎◌, List, ◌++◌, Contains}
use Rattle.rela_graph.specs.Topology.{Topology, HasEdge}

-- from a node that is in From, by edges
pub data Spread (g : Topology) (From : ℕ → Type 0) : ℕ → Type 0 where
  here : {n : ℕ} → From n → Spread g From n
  step : {m n : ℕ} → Spread g From m → HasEdge g m n → Spread g From n

-- new is old, and then just those nodes of P that old lacks
pub record Adds (P : ℕ → Type 0) (old new : List ℕ) : Type 0 where
  pub longer : (more : List ℕ) × (new ≡ old ++ more)
  pub each : (m : ℕ) → Contains new m → Contains old m ⊎ P m
  pub all : (m : ℕ) → P m → Contains new m
