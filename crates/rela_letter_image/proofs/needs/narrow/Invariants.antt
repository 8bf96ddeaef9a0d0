use Rattle.std.proofs.Common.{◌≡◌, ◌≤◌, length}
use Rattle.rela_letter_image.proofs.needs.narrow.Given as goal

abbrev pub invariant-loop-q : goal.invariant-loop-q
invariant-loop-q l = record { within : l.q ≤ length l.states.0; words : length l.needs ≡ length l.states.0 }

abbrev pub decreases-loop-q : goal.decreases-loop-q
decreases-loop-q l = l.q
