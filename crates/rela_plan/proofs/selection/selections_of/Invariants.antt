use Rattle.std.proofs.Common.{take}
use Rattle.rela_plan.specs.Selection.{AreSelections, AreKnown}
use Rattle.rela_plan.proofs.selection.selections_of.Given as goal

-- the selections of the checks so far
abbrev pub invariant-loop-check : goal.invariant-loop-check
invariant-loop-check l = record {
  selections : AreSelections l.block (take l.check-index l.checks) l.selections.items;
  known : AreKnown l.block l.known.items;
}
