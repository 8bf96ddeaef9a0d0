use Rattle.std.proofs.Common.{◌≡◌, length}
use Rattle.rela_letter_image.proofs.needs.needs_of.Given as goal

abbrev pub invariant-loop : goal.invariant-loop
invariant-loop l = length l.needs.items ≡ length l.states.0
