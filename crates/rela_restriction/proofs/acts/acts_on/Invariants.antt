use Rattle.std.proofs.Common.{◌≡◌, ℕ, ◌+◌, ◌<◌, true, length, take}
use Rattle.std.specs.List.{Contains}
use Rattle.rela_labels.specs.Letters.{has}
use Rattle.rela_restriction.specs.Acts.{IsActOn}
use Rattle.rela_restriction.specs.Automata.{act_count}
use Rattle.rela_restriction.proofs.acts.acts_on.Given as goal

abbrev pub invariant-loop-input : goal.invariant-loop-input
invariant-loop-input g l = record {
  size : length (g.L.LabelSet.letters l.set) ≡ act_count l.letters;
  writes : (k : ℕ) → k < l.letters → has (g.L.LabelSet.letters l.set) (l.letters + k) ≡ true;
  reads : (k : ℕ) → Contains (take l.input-index l.inputs) k → has (g.L.LabelSet.letters l.set) k ≡ true;
  keeps : (k : ℕ) → Contains (take l.input-index l.inputs) k → has (g.L.LabelSet.letters l.set) (l.letters + (l.letters + k)) ≡ true;
  only : (x : ℕ) → has (g.L.LabelSet.letters l.set) x ≡ true → IsActOn l.letters (take l.input-index l.inputs) x;
}
