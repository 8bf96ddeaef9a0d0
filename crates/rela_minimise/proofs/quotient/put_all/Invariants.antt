use Rattle.std.proofs.Common.{length, take}
use Rattle.rela_subset.specs.Deterministic.{moves_of}
use Rattle.rela_minimise.specs.Joining.{AreOnto}
use Rattle.rela_minimise.proofs.quotient.put_all.Given as goal

abbrev pub invariant-loop-edge : goal.invariant-loop-edge
invariant-loop-edge g l = AreOnto (length l.dfa.over) l.classes (take l.edge-index (moves_of l.dfa l.q)) l.joined
