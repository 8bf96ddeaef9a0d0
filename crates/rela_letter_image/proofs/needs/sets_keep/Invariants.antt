use Rattle.std.proofs.Common.{take}
use Rattle.std.specs.List.{All, slice_index}
use Rattle.rela_letter_image.specs.Needs.{IsWithin}
use Rattle.rela_letter_image.specs.declared.letter_moves.SetMove.{SetMove}
use Rattle.rela_letter_image.proofs.needs.sets_keep.Given as goal

abbrev pub invariant-loop-step : goal.invariant-loop-step
invariant-loop-step l = All (λ (step : SetMove). IsWithin l.need (slice_index l.needs step.to)) (take l.step-index l.moves)
