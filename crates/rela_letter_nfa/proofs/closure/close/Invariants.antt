use Rattle.std.proofs.Common.{◌≡◌, ◌≤◌, ◌-◌, length}
use Rattle.rela_letter_nfa.specs.Pair.{joined}
use Rattle.rela_letter_nfa.proofs.Closing.{IsClosing}
use Rattle.rela_letter_nfa.proofs.closure.close.Given as goal

abbrev pub invariant-loop-done : goal.invariant-loop-done
invariant-loop-done l = record {
  done : l.done ≤ length l.visited.states;
  count : l.visited.count ≡ l.fn.visited.count;
  closing : IsClosing (joined l.both) l.fn.visited.states l.visited.states l.done;
}

abbrev pub decreases-loop-done : goal.decreases-loop-done
decreases-loop-done l = l.visited.count - l.done
