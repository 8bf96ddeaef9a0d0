use Rattle.std.proofs.Common.{◌≡◌, ◌≤◌, length}
use Rattle.rela_letter_nfa.specs.LetterAutomaton.{states}
use Rattle.rela_letter_image.proofs.ahead.widen.Given as goal

abbrev pub invariant-loop-q : goal.invariant-loop-q
invariant-loop-q l = record { within : l.q ≤ states l.paths; words : length l.ahead ≡ states l.paths }

abbrev pub decreases-loop-q : goal.decreases-loop-q
decreases-loop-q l = l.q
