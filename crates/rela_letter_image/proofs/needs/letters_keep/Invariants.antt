use Rattle.std.proofs.Common.{take, ◌≡◌, ℕ, ◌<◌, ◌⊎◌}
use Rattle.std.specs.List.{All, slice_index}
use Rattle.rela_letter_image.specs.Needs.{Has}
use Rattle.rela_letter_image.specs.declared.letter_moves.LetterMove.{LetterMove}
use Rattle.rela_letter_image.proofs.needs.letters_keep.Given as goal

abbrev pub invariant-loop-step : goal.invariant-loop-step
invariant-loop-step l = All (λ (step : LetterMove). (k : ℕ) → k < 64 → Has l.need k → Has (slice_index l.needs step.to) k ⊎ (k ≡ step.letter)) (take l.step-index l.moves)
