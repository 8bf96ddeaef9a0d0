use Rattle.std.proofs.Common.{ℕ, ◌<◌}
use Rattle.rela_branches.specs.Alternatives.{Claims}
use Rattle.rela_branches.proofs.claiming.Branches.claiming.Given as goal

-- none of the alternatives before this one claims the word
abbrev pub invariant-loop-before : goal.invariant-loop-before
invariant-loop-before l =
    (earlier : ℕ) → earlier < l.before → ¬ Claims l.self.check.now.classes l.self.locations l.self.check.now.body l.word earlier
