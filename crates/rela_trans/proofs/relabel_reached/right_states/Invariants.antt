use Rattle.std.proofs.Common.{◌≡◌, ℕ, ◌↔◌, false, length, get_or, take, IsTrue}
use Rattle.std.specs.List.{Contains}
use Rattle.rela_nfa.specs.Meeting.{pair_of}
use Rattle.rela_trans.proofs.relabel_reached.right_states.Given as goal

abbrev pub invariant-loop-pair : goal.invariant-loop-pair
invariant-loop-pair l = record {
  len : length l.are_right.items ≡ l.states;
  right : (q : ℕ) → IsTrue (get_or l.are_right.items q false) ↔ ((p : ℕ) × Contains (take l.pair-index l.pairs) (pair_of p q));
}
