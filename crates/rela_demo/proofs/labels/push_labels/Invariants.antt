use Rattle.std.proofs.Common.{◌≡◌, ◌-◌, ◌++◌}
use Rattle.rela_demo.specs.Names.{labels_from}
use Rattle.rela_demo.proofs.labels.push_labels.Given as goal

abbrev pub invariant-loop-number : goal.invariant-loop-number
invariant-loop-number l = l.labels.items ≡ l.initial.labels.items ++ labels_from l.first (l.number - l.first)
