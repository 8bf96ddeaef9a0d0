use Rattle.std.proofs.Common.{◌≡◌, ◌*◌, length}
use Rattle.rela_letter_image.proofs.found.free_places.Given as goal

abbrev pub invariant-loop : goal.invariant-loop
invariant-loop l = length l.places.items ≡ 256 * l.counter
