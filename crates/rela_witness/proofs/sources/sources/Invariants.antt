use Rattle.std.proofs.Common.{◌≡◌, length}
use Rattle.rela_nfa.specs.Automaton.{states}
use Rattle.rela_witness.proofs.Turning.{AreBelow}
use Rattle.rela_witness.proofs.sources.sources.Given as goal

abbrev pub invariant-loop-p : goal.invariant-loop-p
invariant-loop-p g l = record {
  count : length l.links ≡ states l.a;
  edges : AreBelow l.a l.kind l.p l.links;
}
