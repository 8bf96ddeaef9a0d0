use Rattle.std.proofs.Common.{◌≡◌, [], length, true}
use Rattle.std.specs.List.{All}
use Rattle.rela_rirfile.specs.Depth.{IsLow}
use Rattle.rela_rirfile.specs.ReadFile.{read_assert}
use Rattle.rela_rirfile.proofs.Loops.{Gathers}
use Rattle.rela_rirfile.proofs.parsing.all_asserts.Given as goal

abbrev pub invariant-loop-alloc : goal.invariant-loop-alloc
invariant-loop-alloc l = record {
  end : l.cursor.end ≡ l.fn.cursor.end;
  read : Gathers (λ _. true) (read_assert l.fn.cursor.end 100) [] l.fn.cursor.rest.now l.asserts.items l.cursor.rest.now;
  low : All IsLow l.asserts.items;
}

abbrev pub decreases-loop-alloc : goal.decreases-loop-alloc
decreases-loop-alloc l = length l.cursor.rest.now
