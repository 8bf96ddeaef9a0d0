use Rattle.std.proofs.Common.{◌≡◌, ◌++◌, drop}
use Rattle.rela_snapshot.specs.SnapshotFlows.{names_of}
use Rattle.rela_snapshot.proofs.pairing.names_of.Given as goal

abbrev pub invariant-loop-flow : goal.invariant-loop-flow
invariant-loop-flow l = l.names ++ names_of (drop l.flow-index l.flows) ≡ names_of l.flows
