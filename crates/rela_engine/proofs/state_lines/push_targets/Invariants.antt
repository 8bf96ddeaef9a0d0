use Rattle.std.proofs.Common.{◌≡◌, ◌++◌, take}
use Rattle.std.specs.List.{flat_map}
use Rattle.rela_engine.specs.AutomatonText.{to_line}
use Rattle.rela_engine.proofs.state_lines.push_targets.Given as goal

abbrev pub invariant-loop-i : goal.invariant-loop-i
invariant-loop-i l = l.text.items ≡ l.initial.text.items ++ flat_map (to_line l.alphabet l.row) (take l.i l.targets)
