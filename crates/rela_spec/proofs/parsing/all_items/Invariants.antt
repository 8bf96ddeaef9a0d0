use Rattle.std.proofs.Common.{◌≡◌, [], length, true}
use Rattle.std.specs.List.{All}
use Rattle.rela_spec.specs.Depth.{IsLow}
use Rattle.rela_spec.specs.ReadFile.{read_item}
use Rattle.rela_spec.proofs.Loops.{Gathers}
use Rattle.rela_spec.proofs.parsing.all_items.Given as goal

abbrev pub invariant-loop-alloc : goal.invariant-loop-alloc
invariant-loop-alloc l = record {
  end : l.cursor.end ≡ l.fn.cursor.end;
  read : Gathers (λ _. true) (read_item l.fn.cursor.end 100) [] l.fn.cursor.rest.now l.items.items l.cursor.rest.now;
  low : All IsLow l.items.items;
}

abbrev pub decreases-loop-alloc : goal.decreases-loop-alloc
decreases-loop-alloc l = length l.cursor.rest.now
