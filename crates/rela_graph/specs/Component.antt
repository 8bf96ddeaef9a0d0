-- Strongly connected components, and the certificate for them.
use Rattle.std.specs.Prelude.{◌≡◌, ℕ, ◌<◌, ◌≤◌, ◌⊎◌, List, [], ◌∷◌, ◌++◌, length, Contains, slice_index, slice_set}
use Rattle.rela_graph.specs.Topology.{Topology, HasEdge}
use Rattle.rela_graph.specs.Walk.{Leads}

-- by no edge or by some
abbrev pub Reaches : Topology → ℕ → ℕ → Type 0
Reaches g a b = (a ≡ b) ⊎ Leads g a b

-- a number for each node, which doesn't fall along an edge; nodes of one number reach each other
pub record AreComponents (g : Topology) (numbers : List ℕ) : Type 0 where
  pub len : length numbers ≡ length g.nodes
  pub ascend : (a b : ℕ) → HasEdge g a b → slice_index numbers a ≤ slice_index numbers b
  pub joined : (a b : ℕ) → a < length g.nodes → b < length g.nodes → slice_index numbers a
      ≡ slice_index numbers b → Reaches g a b

-- nodes below a number that were claimed for roots, the list of the roots, and for each node that was
-- claimed its root's place in that list
pub record Claims : Type 0 where
  pub roots : List ℕ
  pub count : ℕ
  pub nodes : List ℕ
  pub places : List ℕ

abbrev pub root_of : Claims → ℕ → ℕ
root_of c n = slice_index c.roots (slice_index c.places n)

-- the same roots, and the same nodes to be claimed
pub record SameFrame (old new : Claims) : Type 0 where
  pub roots : new.roots ≡ old.roots
  pub count : new.count ≡ old.count
  pub len : length new.places ≡ length old.places

-- n is claimed for the root at the place, unless it was claimed before
abbrev pub ClaimsNode : Claims → Claims → ℕ → ℕ → Type 0
ClaimsNode old new n place =
    (Contains old.nodes n × (new.nodes ≡ old.nodes) × (new.places ≡ old.places))
    ⊎ ((¬ Contains old.nodes n) × (new.nodes ≡ old.nodes ++ n ∷ [])
    × (new.places ≡ slice_set old.places n place))

-- what was claimed reaches its root
abbrev pub AreBehind : Topology → Claims → Type 0
AreBehind g c = (n : ℕ) → Contains c.nodes n → Reaches g n (root_of c n)

-- what was claimed is reached from its root
abbrev pub AreAhead : Topology → Claims → Type 0
AreAhead g c = (n : ℕ) → Contains c.nodes n → Reaches g (root_of c n) n
