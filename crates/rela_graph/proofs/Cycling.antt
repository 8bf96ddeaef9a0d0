-- What is reached from a node, and whether it comes back to it.
use Rattle.std.proofs.Common.{◌≡◌, ℕ, ◌<◌, ◌↔◌, Bool, IsTrue, List, [], ◌∷◌, ◌++◌, length, refl, sym, ◌∙◌, inl, inr, arith}
use Rattle.std.specs.Prelude.{slice_index, ◌==◌}
use Rattle.std.specs.List.{Contains, list_any}
use Rattle.std.proofs.lemmas.Bool.{eqb-true, eq-eqb}
use Rattle.std.proofs.lemmas.List.{get_or_default}
use Rattle.std.proofs.lemmas.List.Folds.{Any-from_list_any, list_any-from_Any}
use Rattle.std.proofs.lemmas.List.Elements.{All-contains}
use Rattle.rela_graph.specs.Topology.{Topology, IsTopology, JoinsNodes, HasEdge, HasFlag}
use Rattle.rela_graph.specs.Walk.{FollowsEdges, Leads, IsCyclic}
use Rattle.rela_graph.specs.Spread.{Spread, here, step, Adds}
use Rattle.rela_graph.proofs.Flagged.{none_in_empty, flag_within}
use Rattle.rela_graph.proofs.Walking.{lead_by, lead_on}

-- what `contains` answers
pub among : (xs : List ℕ) (n : ℕ) (b : Bool) → b ≡ list_any (λ y. y == n) xs → IsTrue b ↔ Contains xs n
among xs n b is = (
  λ t.
      let any = Any-from_list_any (λ y. y == n) xs (sym is ∙ t) in
      (any.0, any.2, get_or_default xs any.0 n any.1 any.2 ∙ any.3 ∙ eqb-true any.1 n any.4),
  λ c. is ∙ list_any-from_Any (λ y. y == n) xs (c.0, n, c.1, c.2, eq-eqb n n refl),
)

-- what is reached from the nodes that an edge from n leads to is what n leads to
module _ (g : Topology) (n : ℕ) (first : List ℕ) (adds : Adds (HasEdge g n) [] first) where
  led : {m : ℕ} → Spread g (Contains first) m → Leads g n m
  led (here {n = m} c) = elim (adds.each m c) [ inl old ↦ absurd (none_in_empty m old) | inr next ↦ lead_by g n m next ]
  led (step {m = u} {n = m} r e) = lead_on g n u m (led r) e

  reach : (xs : List ℕ) (a m : ℕ) → ((b : ℕ) → HasEdge g a b → Spread g (Contains first) b) → FollowsEdges g (a ∷ (xs ++ m ∷ [])) → Spread g (Contains first) m
  reach [] a m go f = go m f.0
  reach (x ∷ xs) a m go f = reach xs x m (λ b e. step (go x f.0) e) f.1

  pub reached : (m : ℕ) → Spread g (Contains first) m ↔ Leads g n m
  reached m = (led, λ l. reach l.0 n m (λ b e. here (adds.all b e)) l.1)

-- what lies on a cycle is a node
pub cyclic_node : (g : Topology) → IsTopology g → (n : ℕ) → IsCyclic g n → n < length g.nodes
cyclic_node g is n l = first l.0 l.1
  where
    node : (b : ℕ) → HasEdge g n b → n < length g.nodes
    node b e = (All-contains (JoinsNodes (length g.nodes)) g.edges (record { a = n; b = b }) is.joins e).0

    first : (xs : List ℕ) → FollowsEdges g (n ∷ (xs ++ n ∷ [])) → n < length g.nodes
    first [] f = node n f.0
    first (x ∷ xs) f = node x f.0

-- a flag for each node tells of all numbers
pub flags_tell : (g : Topology) → IsTopology g → (flags : List Bool) → length flags ≡ length g.nodes → ((n : ℕ) → n < length g.nodes → HasFlag flags n ↔ IsCyclic g n)
    → (n : ℕ) → HasFlag flags n ↔ IsCyclic g n
flags_tell g is flags len tell n = (
  λ h. (tell n (let w = flag_within flags n h in omega arith)).0 h,
  λ l. (tell n (cyclic_node g is n l)).1 l,
)
