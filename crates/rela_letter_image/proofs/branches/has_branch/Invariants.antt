use Rattle.std.proofs.Common.{ℕ, ◌<◌}
use Rattle.rela_letter_image.specs.Branches.{IsBranch}
use Rattle.rela_letter_image.proofs.branches.has_branch.Given as goal

abbrev pub invariant-loop-q : goal.invariant-loop-q
invariant-loop-q g l = (p : ℕ) → p < l.q → ¬ IsBranch l.relation p
