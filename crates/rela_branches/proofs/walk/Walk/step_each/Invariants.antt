use Rattle.std.proofs.Common.{◌≡◌, ℕ, ◌<◌, length}
use Rattle.rela_translate.specs.Zones.{path_symbols}
use Rattle.rela_branches.specs.Walks.{IsStep}
use Rattle.rela_branches.proofs.Eaches.{at}
use Rattle.rela_branches.proofs.walk.Walk.step_each.Given as goal

abbrev pub invariant-loop-set : goal.invariant-loop-set
invariant-loop-set l = record {
  long : length l.to.items ≡ l.set-index;
  each : (k : ℕ) → k < l.set-index → IsStep l.self.classes.now (path_symbols l.self.locations) l.self.word.now l.letter (at l.from k) (at l.to.items k);
}
