use Rattle.std.proofs.Common.{◌≡◌, ◌≤◌, [], length}
use Rattle.rela_spec.specs.ReadPaths.{read_member, starts_member}
use Rattle.rela_spec.proofs.Loops.{Gathers}
use Rattle.rela_spec.proofs.parsing.members.members.Given as goal

abbrev pub invariant-loop-alloc : goal.invariant-loop-alloc
invariant-loop-alloc l = record {
  end : l.cursor.end ≡ l.fn.cursor.end;
  left : length l.cursor.rest.now ≤ length l.fn.cursor.rest.now;
  read : Gathers starts_member (read_member l.fn.cursor.end l.room) [] l.fn.cursor.rest.now l.members.items l.cursor.rest.now;
}

abbrev pub decreases-loop-alloc : goal.decreases-loop-alloc
decreases-loop-alloc l = length l.cursor.rest.now
