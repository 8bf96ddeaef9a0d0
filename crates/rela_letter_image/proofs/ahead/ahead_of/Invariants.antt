use Rattle.std.proofs.Common.{◌≡◌, length}
use Rattle.rela_letter_nfa.specs.LetterAutomaton.{states}
use Rattle.rela_letter_image.proofs.ahead.ahead_of.Given as goal

abbrev pub invariant-loop : goal.invariant-loop
invariant-loop l = length l.ahead.items ≡ states l.paths
