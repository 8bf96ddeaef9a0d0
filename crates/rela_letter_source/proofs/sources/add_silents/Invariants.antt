use Rattle.std.proofs.Common.{take}
use Rattle.rela_letter_source.specs.Growth.{Grows}
use Rattle.rela_letter_source.specs.Steps.{silent_steps}
use Rattle.rela_letter_source.proofs.sources.add_silents.Given as goal

abbrev pub invariant-loop-end : goal.invariant-loop-end
invariant-loop-end l = Grows (silent_steps l.x (take l.end-index l.ends)) l.fn.growing l.growing
