use Rattle.std.proofs.Common.{ℕ, ◌<◌}
use Rattle.rela_letter_image.specs.Coarse.{coarse_of}
use Rattle.rela_letter_image.specs.Needs.{IsToldAhead}
use Rattle.rela_letter_image.proofs.ahead.are_ahead.Given as goal

abbrev pub invariant-loop-q : goal.invariant-loop-q
invariant-loop-q l = (p : ℕ) → p < l.q → IsToldAhead (coarse_of l.letters l.coarse) l.paths l.ahead p
