use Rattle.std.proofs.Common.{not, ap, ◌∙◌}
use Rattle.rela_labels.proofs.ReachedSymbols.{step_reached}
use Rattle.rela_labels.proofs.base.Base.least_left.Goals as goal

pub loop-reached-preserved : goal.loop-reached-preserved
loop-reached-preserved c =
    step_reached _ _ _ _ c.in-Some.s _ _ c.place_in.result c.requires.linked c.in-Some.is c.loop-reached.invariant
    (c.is_none.ensures ∙ ap not c.if-is_none.false) c.place_in.ensures c.index-reached.ensures
