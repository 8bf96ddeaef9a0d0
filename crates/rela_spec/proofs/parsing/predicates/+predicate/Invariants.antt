use Rattle.std.proofs.Common.{◌≡◌, ◌+◌, ◌*◌, ◌≤◌, ℕ, length, map}
use Rattle.rela_flows.specs.Selects.{depth, greatest}
use Rattle.rela_spec.specs.ReadPredicates.{between, next_at, within}
use Rattle.rela_spec.specs.ReadWords.{is_word_of}
use Rattle.rela_spec.specs.declared.parsing.predicates.Joint.{Joint}
use Rattle.rela_spec.specs.declared.parsing.predicates.Joint.TheVariants.{Or, And}
use Rattle.rela_spec.proofs.Loops.{Gathers}
use Rattle.rela_spec.proofs.parsing.predicates.+predicate.Given as goal

-- how many kinds of chain may stand in a part of this one
abbrev height : Joint → ℕ
height Or = 1
height And = 0

abbrev pub decreases-predicate : goal.decreases-predicate
decreases-predicate l = 16 * l.room + 15

abbrev pub decreases-chain : goal.decreases-chain
decreases-chain l = 16 * l.room + (4 * height l.joint + 7)

abbrev pub decreases-more_parts : goal.decreases-more_parts
decreases-more_parts l = 16 * l.room + (4 * height l.joint + 6)

abbrev pub decreases-next_part : goal.decreases-next_part
decreases-next_part l = 16 * l.room + (4 * height l.joint + 5)

abbrev pub decreases-part : goal.decreases-part
decreases-part l = 16 * l.room + (4 * height l.joint + 4)

abbrev pub decreases-denial : goal.decreases-denial
decreases-denial l = 16 * l.room + 2

abbrev pub decreases-single : goal.decreases-single
decreases-single l = 16 * l.room + 1

abbrev pub decreases-group : goal.decreases-group
decreases-group l = 16 * l.room

abbrev pub invariant-more_parts-loop-alloc : goal.invariant-more_parts-loop-alloc
invariant-more_parts-loop-alloc l = record {
  end : l.cursor.end ≡ l.fn.cursor.end;
  left : length l.cursor.rest.now ≤ length l.fn.cursor.rest.now;
  read : Gathers (is_word_of (between l.joint)) (next_at l.joint l.fn.cursor.end l.room) l.fn.parts.items l.fn.cursor.rest.now l.parts.items l.cursor.rest.now;
  shallow : greatest (map depth l.parts.items) ≤ 3 * l.room + within l.joint;
}

abbrev pub decreases-more_parts-loop-alloc : goal.decreases-more_parts-loop-alloc
decreases-more_parts-loop-alloc l = length l.cursor.rest.now
