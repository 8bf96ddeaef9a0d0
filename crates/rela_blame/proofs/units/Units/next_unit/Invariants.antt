use Rattle.std.proofs.Common.{◌≡◌, length}
use Rattle.rela_blame.specs.Units.{unit_offsets}
use Rattle.rela_blame.proofs.units.Units.next_unit.Given as goal

abbrev pub invariant-loop-token : goal.invariant-loop-token
invariant-loop-token l = unit_offsets l.self.tokens.now ≡ unit_offsets l.initial.self.tokens.now

abbrev pub decreases-loop-token : goal.decreases-loop-token
decreases-loop-token l = length l.self.tokens.now
