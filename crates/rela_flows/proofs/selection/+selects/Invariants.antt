use Rattle.std.proofs.Common.{◌↔◌, drop}
use Rattle.std.specs.List.{AllByRecursion}
use Rattle.rela_flows.specs.Selects.{Selects, SomeByRecursion}
use Rattle.rela_flows.proofs.selection.+selects.Given as goal

abbrev pub invariant-all_select-loop-part : goal.invariant-all_select-loop-part
invariant-all_select-loop-part l =
    AllByRecursion (λ p. Selects p l.class) (drop l.part-index l.parts) ↔ AllByRecursion (λ p. Selects p l.class) l.parts

abbrev pub invariant-any_selects-loop-part : goal.invariant-any_selects-loop-part
invariant-any_selects-loop-part l =
    SomeByRecursion (λ p. Selects p l.class) (drop l.part-index l.parts) ↔ SomeByRecursion (λ p. Selects p l.class) l.parts
