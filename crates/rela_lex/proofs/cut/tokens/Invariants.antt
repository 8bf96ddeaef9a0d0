use Rattle.std.proofs.Common.{length, ◌-◌, ◌≤◌}
use Rattle.rela_lex.proofs.Reached.{Reached}
use Rattle.rela_lex.proofs.cut.tokens.Given as goal

abbrev pub invariant-loop-at : goal.invariant-loop-at
invariant-loop-at l = record { within : l.at ≤ length l.bytes; reached : Reached l.bytes l.at l.tokens.items }

abbrev pub decreases-loop-at : goal.decreases-loop-at
decreases-loop-at l = length l.bytes - l.at
