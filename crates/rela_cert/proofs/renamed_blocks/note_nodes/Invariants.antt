use Rattle.std.proofs.Common.{◌≡◌, ◌++◌, ℕ, List, length, map, take}
use Rattle.rela_graph.specs.Topology.{symbol_at}
use Rattle.rela_cert.specs.RenamedBlocks.{AreFirstPlaces}
use Rattle.rela_cert.proofs.renamed_blocks.note_nodes.Given as goal

abbrev pub invariant-loop-k : goal.invariant-loop-k
invariant-loop-k l = (places : List ℕ) → length places ≡ l.passed → AreFirstPlaces places l.fn.first → AreFirstPlaces (places ++ map (symbol_at l.level) (take l.k l.nodes)) l.first
