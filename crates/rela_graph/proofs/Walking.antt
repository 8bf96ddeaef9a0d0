-- Walks that go on by one node, and lists that lead from node to node.
use Rattle.std.proofs.Common.{◌≡◌, ℕ, List, [], ◌∷◌, ◌++◌, refl, ap}
use Rattle.rela_graph.specs.Topology.{Topology, HasEdge}
use Rattle.rela_graph.specs.Walk.{FollowsEdges, IsWalk, Leads}

-- a nonempty list ends with some element
pub ending : (x : ℕ) (xs : List ℕ) → (front : List ℕ) × (last : ℕ) × (x ∷ xs ≡ front ++ last ∷ [])
ending x [] = ([], x, refl)
ending x (y ∷ xs) = let more = ending y xs in (x ∷ more.0, more.1, ap (λ r. x ∷ r) more.2)

module _ (g : Topology) where
  pub follow_on : (xs : List ℕ) (u n : ℕ) → FollowsEdges g (xs ++ u ∷ []) → HasEdge g u n → FollowsEdges g ((xs ++ u ∷ []) ++ n ∷ [])
  follow_on [] u n f e = (e, tt)
  follow_on (a ∷ []) u n f e = (f.0, (e, tt))
  follow_on (a ∷ b ∷ xs) u n f e = (f.0, follow_on (b ∷ xs) u n f.1 e)

  pub follow_back : (xs : List ℕ) (u n : ℕ) → FollowsEdges g ((xs ++ u ∷ []) ++ n ∷ []) → FollowsEdges g (xs ++ u ∷ []) × HasEdge g u n
  follow_back [] u n f = (tt, f.0)
  follow_back (a ∷ []) u n f = ((f.0, tt), f.1.0)
  follow_back (a ∷ b ∷ xs) u n f = let rest = follow_back (b ∷ xs) u n f.1 in ((f.0, rest.0), rest.1)

  pub walk_on : (xs : List ℕ) (u n : ℕ) → IsWalk g (xs ++ u ∷ []) → HasEdge g u n → IsWalk g ((xs ++ u ∷ []) ++ n ∷ [])
  walk_on [] u n w e = (w.0, follow_on [] u n w.1 e)
  walk_on (a ∷ xs) u n w e = (w.0, follow_on (a ∷ xs) u n w.1 e)

  pub walk_back : (xs : List ℕ) (u n : ℕ) → IsWalk g ((xs ++ u ∷ []) ++ n ∷ []) → IsWalk g (xs ++ u ∷ []) × HasEdge g u n
  walk_back [] u n w = let rest = follow_back [] u n w.1 in ((w.0, rest.0), rest.1)
  walk_back (a ∷ xs) u n w = let rest = follow_back (a ∷ xs) u n w.1 in ((w.0, rest.0), rest.1)

  -- one edge leads
  pub lead_by : (a b : ℕ) → HasEdge g a b → Leads g a b
  lead_by a b e = ([], (e, tt))

  -- and one more edge
  pub lead_on : (a b c : ℕ) → Leads g a b → HasEdge g b c → Leads g a c
  lead_on a b c l e = (l.0 ++ b ∷ [], follow_on (a ∷ l.0) b c l.1 e)

  -- one edge first
  pub lead_after : (a b c : ℕ) → HasEdge g a b → Leads g b c → Leads g a c
  lead_after a b c e l = (b ∷ l.0, (e, l.1))

  -- what leads to b, and from b to c, leads to c
  pub lead_through : (a b c : ℕ) → Leads g a b → Leads g b c → Leads g a c
  lead_through a b c l m = through l.0 a l.1
    where
      through : (xs : List ℕ) (a : ℕ) → FollowsEdges g (a ∷ (xs ++ b ∷ [])) → Leads g a c
      through [] a f = lead_after a b c f.0 m
      through (x ∷ xs) a f = lead_after a x c f.0 (through xs x f.1)
