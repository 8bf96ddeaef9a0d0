use Rattle.std.proofs.Common.{◌≡◌, ◌+◌, ◌*◌, ◌≤◌, ℕ, length}
use Rattle.rela_spec.specs.ReadPaths.{goes_on, next_at}
use Rattle.rela_spec.specs.declared.parsing.paths.Joint.{Joint}
use Rattle.rela_spec.specs.declared.parsing.paths.Joint.TheVariants.{Alt, And, Seq}
use Rattle.rela_spec.proofs.Loops.{Gathers}
use Rattle.rela_spec.proofs.parsing.paths.+path.Given as goal

-- how many kinds of chain may stand in a part of this one
abbrev height : Joint → ℕ
height Alt = 2
height And = 1
height Seq = 0

abbrev pub decreases-path : goal.decreases-path
decreases-path l = 20 * l.room + 16

abbrev pub decreases-chain : goal.decreases-chain
decreases-chain l = 20 * l.room + (4 * height l.joint + 7)

abbrev pub decreases-more_parts : goal.decreases-more_parts
decreases-more_parts l = 20 * l.room + (4 * height l.joint + 6)

abbrev pub decreases-part : goal.decreases-part
decreases-part l = 20 * l.room + (4 * height l.joint + 4)

abbrev pub decreases-next_part : goal.decreases-next_part
decreases-next_part l = 20 * l.room + (4 * height l.joint + 5)

abbrev pub decreases-negation : goal.decreases-negation
decreases-negation l = 20 * l.room + 3

abbrev pub decreases-postfixed : goal.decreases-postfixed
decreases-postfixed l = 20 * l.room + 2

abbrev pub decreases-atom : goal.decreases-atom
decreases-atom l = 20 * l.room + 1

abbrev pub decreases-group : goal.decreases-group
decreases-group l = 20 * l.room

abbrev pub invariant-more_parts-loop-alloc : goal.invariant-more_parts-loop-alloc
invariant-more_parts-loop-alloc l = record {
  end : l.cursor.end ≡ l.fn.cursor.end;
  left : length l.cursor.rest.now ≤ length l.fn.cursor.rest.now;
  read : Gathers (goes_on l.joint) (next_at l.joint l.fn.cursor.end l.room) l.fn.parts.items l.fn.cursor.rest.now l.parts.items l.cursor.rest.now;
}

abbrev pub decreases-more_parts-loop-alloc : goal.decreases-more_parts-loop-alloc
decreases-more_parts-loop-alloc l = length l.cursor.rest.now
