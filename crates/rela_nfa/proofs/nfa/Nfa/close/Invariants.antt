use Rattle.std.proofs.Common.{◌≡◌, ◌<◌, ◌≤◌, ◌-◌, length}
use Rattle.std.specs.List.{All}
use Rattle.rela_nfa.specs.Automaton.{states}
use Rattle.rela_nfa.proofs.Closing.{IsClosing}
use Rattle.rela_nfa.proofs.nfa.Nfa.close.Given as goal

abbrev pub invariant-loop-done : goal.invariant-loop-done
invariant-loop-done g l = record {
  done : l.done ≤ length l.set.states;
  count : l.set.count ≡ l.fn.set.count;
  within : All (λ q. q < states l.self) l.set.states;
  closing : IsClosing l.self l.fn.set.states l.set.states l.done;
}

abbrev pub decreases-loop-done : goal.decreases-loop-done
decreases-loop-done g l = l.set.count - l.done
