use Rattle.std.proofs.Common.{◌<◌, take}
use Rattle.std.specs.List.{All}
use Rattle.rela_letter_paths.proofs.letters.has_letters_below.Given as goal

abbrev pub invariant-loop-q : goal.invariant-loop-q
invariant-loop-q l = All (All (λ edge. edge.letter < l.bound)) (take l.q l.nfa.edges)
