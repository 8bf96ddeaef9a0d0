use Rattle.std.proofs.Common.{◌<◌, length}
use Rattle.rela_letter_image.proofs.found.look_up.Given as goal

abbrev pub invariant-loop : goal.invariant-loop
invariant-loop l = l.place < length l.places
