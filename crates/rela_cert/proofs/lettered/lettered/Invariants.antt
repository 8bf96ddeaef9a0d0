use Rattle.std.proofs.Common.{◌≡◌, map, take}
use Rattle.rela_cert.specs.Letters.{letter_step}
use Rattle.rela_cert.proofs.lettered.lettered.Given as goal

abbrev pub invariant-loop-step : goal.invariant-loop-step
invariant-loop-step l = l.letters.items ≡ map (letter_step l.blocks) (take l.step-index l.steps)
