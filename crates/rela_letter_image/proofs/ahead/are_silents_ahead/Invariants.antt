use Rattle.std.proofs.Common.{take}
use Rattle.std.specs.List.{All, slice_index}
use Rattle.rela_letter_image.specs.Needs.{IsWithin}
use Rattle.rela_letter_image.proofs.ahead.are_silents_ahead.Given as goal

abbrev pub invariant-loop-end : goal.invariant-loop-end
invariant-loop-end l = All (λ q. IsWithin (slice_index l.ahead q) l.here) (take l.end-index l.ends)
