use Rattle.std.proofs.Common.{◌+◌, length, map}
use Rattle.rela_nfa.specs.Stored.{move_of}
use Rattle.rela_graph.specs.Unrolled.{LeadOn}
use Rattle.rela_graph.proofs.Unrolling.{BeginsBelow}
use Rattle.rela_graph.proofs.graph.Graph.add_edges_to_starts.Given as goal

-- the starts so far
abbrev pub invariant-loop-n : goal.invariant-loop-n
invariant-loop-n g l = LeadOn l.letters.count (length l.self.nodes + 2) (map (move_of g.L.LabelSet.letters) l.edges.items) (BeginsBelow l.self l.letters l.n)
