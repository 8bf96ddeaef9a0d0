use Rattle.std.proofs.Common.{◌≡◌, ◌≤◌, length}
use Rattle.rela_trans.specs.Machine.{machine_states}
use Rattle.rela_letter_image.specs.Branches.{AreEnds, ends_of}
use Rattle.rela_letter_image.proofs.branches.pass_over_each.Given as goal

abbrev pub invariant-loop-q : goal.invariant-loop-q
invariant-loop-q g l = record {
  within : l.q ≤ machine_states l.relation;
  each : length l.kept ≡ machine_states l.relation;
  ends : AreEnds l.relation (ends_of l.kept);
}

abbrev pub decreases-loop-q : goal.decreases-loop-q
decreases-loop-q g l = l.q
