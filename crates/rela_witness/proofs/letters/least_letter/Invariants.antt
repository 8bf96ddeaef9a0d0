use Rattle.std.proofs.Common.{take}
use Rattle.rela_witness.specs.Finishing.{Continues}
use Rattle.rela_witness.specs.Labels.{IsLeast}
use Rattle.rela_witness.proofs.letters.least_letter.Given as goal

abbrev pub invariant-loop-q : goal.invariant-loop-q
invariant-loop-q g l = IsLeast (Continues l.a l.distances l.distance (take l.q-index l.layer)) l.least
