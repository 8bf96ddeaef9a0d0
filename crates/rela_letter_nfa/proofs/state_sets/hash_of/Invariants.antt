use Rattle.std.proofs.Common.{◌≡◌, fold, take}
use Rattle.rela_letter_nfa.specs.Buckets.{mixed}
use Rattle.rela_letter_nfa.proofs.state_sets.hash_of.Given as goal

abbrev pub invariant-loop-q : goal.invariant-loop-q
invariant-loop-q l = l.hash ≡ fold mixed 0 (take l.q-index l.set)
