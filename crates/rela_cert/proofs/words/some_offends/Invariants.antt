use Rattle.std.proofs.Common.{◌<◌, ℕ}
use Rattle.rela_cert.specs.WordsJudged.{OffendsAt}
use Rattle.rela_cert.proofs.words.some_offends.Given as goal

abbrev pub invariant-loop-i : goal.invariant-loop-i
invariant-loop-i l = (j : ℕ) → j < l.i → ¬ OffendsAt l.at_most l.before l.after j
