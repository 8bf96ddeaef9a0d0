-- Graphs that no file can tell apart have the same paths.
use Rattle.std.proofs.Common.{◌≡◌, ℕ, inl, inr, List, [], ◌∷◌, ◌++◌, map, ap, subst, sym}
use Rattle.rela_graph.specs.Paths.{Arrives, IsEnding, Paths, Undelivered, base, locations}
use Rattle.rela_graph.specs.Topology.{Topology, symbol_at}
use Rattle.rela_graph.specs.Walk.{FollowsEdges, IsWalk, IsCyclic, IsDropNode}
use Rattle.rela_graph.specs.declared.node.Node.{Node}
use Rattle.rela_names.specs.declared.level.Level.{Level}
use Rattle.rela_same_flows.specs.SameFlows.{SameGraph}

-- turned round
pub graph_flipped : (g h : Topology) → SameGraph g h → SameGraph h g
graph_flipped g h same = record {
  nodes = sym same.nodes;
  edges = λ a b. ((same.edges a b).1, (same.edges a b).0);
  starts = λ n. ((same.starts n).1, (same.starts n).0);
  delivered = λ n. ((same.delivered n).1, (same.delivered n).0);
  dropped = λ n. ((same.dropped n).1, (same.dropped n).0);
}

module _ (g h : Topology) (same : SameGraph g h) where
  follows : (walk : List ℕ) → FollowsEdges g walk → FollowsEdges h walk
  follows [] along = tt
  follows (a ∷ []) along = tt
  follows (a ∷ b ∷ rest) along = ((same.edges a b).0 along.0, follows (b ∷ rest) along.1)

  walks : (walk : List ℕ) → IsWalk g walk → IsWalk h walk
  walks [] is = absurd is
  walks (a ∷ rest) is = ((same.starts a).0 is.0, follows (a ∷ rest) is.1)

  cyclic : (n : ℕ) → IsCyclic g n → IsCyclic h n
  cyclic n is = (is.0, follows (n ∷ (is.0 ++ n ∷ [])) is.1)

  drops : (n : ℕ) → IsDropNode g n → IsDropNode h n
  drops n (inl listed) = inl ((same.dropped n).0 listed)
  drops n (inr stuck) = inr (λ m edge. stuck.0 m ((same.edges n m).1 edge), λ delivered. stuck.1 ((same.delivered n).1 delivered))

  module _ (level : Level) where
    places : locations g level ≡ locations h level
    places = ap (λ (nodes : List Node). map (symbol_at level) nodes) same.nodes

    -- each node is reached by the same words
    pub arrives : (n : ℕ) (word : List ℕ) → Arrives g (locations g level) n word → Arrives h (locations h level) n word
    arrives n word is =
        (is.0, walks (is.0 ++ n ∷ []) is.1, subst (λ (ls : List ℕ). base ls (is.0 ++ n ∷ []) ≡ word) places is.2)

    ends : (names : List (List ℕ)) (n : ℕ) (ending : List ℕ) → IsEnding g names n ending → IsEnding h names n ending
    ends names n ending (inl is) = inl ((same.delivered n).0 is.0, is.1)
    ends names n ending (inr (inl is)) = inr (inl (drops n is.0, is.1))
    ends names n ending (inr (inr is)) = inr (inr (cyclic n is.0, is.1))

    -- the words that end with `drop` or `loop` are the same
    pub undelivered : (names : List (List ℕ)) (word : List ℕ) → Undelivered g level names word → Undelivered h level names word
    undelivered names word (n, front, ending, is, ended, some, split) = (n, front, ending, arrives n front is, ends names n ending ended, some, split)

    pub paths : (names : List (List ℕ)) (word : List ℕ) → Paths g level names word → Paths h level names word
    paths names word (n, front, ending, is, ended, split) = (n, front, ending, arrives n front is, ends names n ending ended, split)
