-- The letters by which an automaton reads the walks of a graph, and the edges that read them.
use Rattle.std.specs.Prelude.{◌≡◌, ℕ, ◌+◌, ◌<◌, ◌==◌, if◌then◌else◌, Bool, List, [], ◌∷◌, length, Option, None, Some, slice_index}
use Rattle.std.specs.List.{All}
use Rattle.rela_nfa.specs.Automaton.{Move}
use Rattle.rela_nfa.specs.Construction.{silent, single}
use Rattle.rela_graph.specs.Topology.{Topology}
use Rattle.rela_graph.specs.declared.letters.Letters.{Letters}
use Rattle.rela_graph.specs.declared.node.Link.{Link}

-- a letter for each node, and each letter below the number of letters
pub record AreLetters (g : Topology) (letters : Letters) : Type 0 where
  pub nodes : length letters.nodes.items ≡ length g.nodes
  pub each : All (λ k. k < letters.count) letters.nodes.items
  pub drops : letters.drop_letter < letters.count
  pub loops : letters.loop_letter < letters.count

-- the letter of the node's location
abbrev pub letter_at : Letters → ℕ → ℕ
letter_at letters n = slice_index letters.nodes.items n

-- what is read on the way from n to m: nothing where both have one letter, else that of m
abbrev pub read_between : Letters → ℕ → ℕ → Option ℕ
read_between letters n m = if letter_at letters n == letter_at letters m then None
    else Some (letter_at letters m)

-- an edge by one letter
abbrev pub by_letter : ℕ → ℕ → ℕ → Move
by_letter count letter to = record { label = Some (single count letter); to = to }

-- an edge, if it is wanted
abbrev pub only_if : Bool → Move → List Move
only_if wanted move = if wanted then move ∷ [] else []

-- the edge for one of the graph's; state 1 + n stands at node n
abbrev pub link_move : Letters → Link → Move
link_move letters link =
    if letter_at letters link.a == letter_at letters link.b then silent (1 + link.b)
    else by_letter letters.count (letter_at letters link.b) (1 + link.b)
