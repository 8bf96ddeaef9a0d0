use Rattle.std.proofs.Common.{◌≡◌, ◌+◌, map, take}
use Rattle.std.specs.List.{Contains}
use Rattle.rela_letter_nfa.specs.Sets.{Adds}
use Rattle.rela_letter_nfa.proofs.both.insert_all.Given as goal

abbrev pub invariant-loop-q : goal.invariant-loop-q
invariant-loop-q l = record {
  count : l.visited.count ≡ l.fn.visited.count;
  adds : Adds (Contains (map (λ q. l.before + q) (take l.q-index l.states))) l.fn.visited.states l.visited.states;
}
