-- The automaton that reads the walks of a graph. Words begin at state 0, state 1 + n stands at node n,
-- and the last state is the end of a walk that drops or never leaves a cycle.
use Rattle.std.specs.Prelude.{◌≡◌, ℕ, ◌+◌, ◌<◌, ◌⊎◌, ◌↔◌, List, [], length, Option, Some, slice_index_or}
use Rattle.std.specs.List.{All}
use Rattle.rela_nfa.specs.Automaton.{Move, IsMove}
use Rattle.rela_nfa.specs.Runs.{StepIn}
use Rattle.rela_graph.specs.Lettering.{letter_at, read_between}
use Rattle.rela_graph.specs.Topology.{Topology, HasEdge, IsStart}
use Rattle.rela_graph.specs.Walk.{IsCyclic, IsDropNode}
use Rattle.rela_graph.specs.declared.letters.Letters.{Letters}

-- edges of an automaton of this size, which lead by just the letters and to just the states of P
pub record LeadOn (letters states : ℕ) (moves : List Move)
    (P : Option ℕ → ℕ → Type 0) : Type 0 where
  pub sized : All (IsMove letters states) moves
  pub steps : (letter : Option ℕ) (q : ℕ) → StepIn moves letter q ↔ P letter q

-- to a start, by its letter
abbrev pub Begins : Topology → Letters → Option ℕ → ℕ → Type 0
Begins g letters letter q = (n : ℕ) × IsStart g n
    × (letter ≡ Some (letter_at letters n)) × (q ≡ 1 + n)

-- from node n along an edge, or to the last state by `drop` where n drops, and by `loop` where it lies on a cycle
abbrev pub GoesOn : Topology → Letters → ℕ → Option ℕ → ℕ → Type 0
GoesOn g letters n letter q =
    ((m : ℕ) × HasEdge g n m × (letter ≡ read_between letters n m) × (q ≡ 1 + m))
    ⊎ ((IsDropNode g n × (letter ≡ Some letters.drop_letter) × (q ≡ 1 + length g.nodes))
    ⊎ (IsCyclic g n × (letter ≡ Some letters.loop_letter) × (q ≡ 1 + length g.nodes)))

-- the edges of each state
pub record IsUnrolled (g : Topology) (letters : Letters) (edges : List (List Move)) : Type 0 where
  pub len : length edges ≡ length g.nodes + 2
  pub first : LeadOn letters.count (length g.nodes + 2) (slice_index_or edges 0 [])
      (Begins g letters)
  pub nodes : (n : ℕ) → n < length g.nodes →
      LeadOn letters.count (length g.nodes + 2) (slice_index_or edges (1 + n) []) (GoesOn g letters n)
  pub last : slice_index_or edges (1 + length g.nodes) [] ≡ []
