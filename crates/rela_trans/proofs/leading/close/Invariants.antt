use Rattle.std.proofs.Common.{◌≤◌, ◌-◌, length}
use Rattle.rela_nfa.specs.StateSet.{AreFlagged}
use Rattle.rela_trans.specs.Coaccessible.{list_at}
use Rattle.rela_trans.specs.Stored.{lists_of}
use Rattle.rela_trans.proofs.Coaccessible.{IsClosing}
use Rattle.rela_trans.proofs.leading.close.Given as goal

abbrev pub invariant-loop-done : goal.invariant-loop-done
invariant-loop-done l = record {
  done : l.done ≤ length l.states.items;
  flagged : AreFlagged l.flags l.states.items;
  closing : IsClosing (list_at (lists_of l.lists)) l.initial.states.items l.states.items l.done;
}

abbrev pub decreases-loop-done : goal.decreases-loop-done
decreases-loop-done l = length l.flags - l.done
