use Rattle.rela_minimise.specs.Cutting.{AreCoarse}
use Rattle.rela_minimise.proofs.passes.by_passes.Given as goal

abbrev pub invariant-loop-pass : goal.invariant-loop-pass
invariant-loop-pass g l = AreCoarse l.dfa l.classes.count l.classes.numbers.items
