use Rattle.std.proofs.Common.{List, length}
use Rattle.rela_certfile.specs.declared.item.Item.{Item}
use Rattle.rela_certfile.proofs.Progress.{Read}
use Rattle.rela_certfile.proofs.parsing.parse.Given as goal

-- the items so far
abbrev pub invariant-loop-next : goal.invariant-loop-next
invariant-loop-next l =
    (items : List Item) × Read l.layout l.text l.rest l.line l.state l.builder items

abbrev pub decreases-loop-next : goal.decreases-loop-next
decreases-loop-next l = length l.rest
