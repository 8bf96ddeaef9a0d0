use Rattle.rela_plan.specs.Selection.{AreKnown}
use Rattle.rela_plan.proofs.Selections.{AllFrom, SomeFrom}
use Rattle.rela_plan.proofs.selection.+selected.Given as goal

abbrev pub invariant-selected_by_all-loop-part : goal.invariant-selected_by_all-loop-part
invariant-selected_by_all-loop-part l = record {
  selected : AllFrom l.block l.parts l.asked l.part-index l.flows;
  known : AreKnown l.block l.known;
}

abbrev pub invariant-selected_by_any-loop-part : goal.invariant-selected_by_any-loop-part
invariant-selected_by_any-loop-part l = record {
  selected : SomeFrom l.block l.parts l.asked l.part-index l.flows;
  known : AreKnown l.block l.known;
}
