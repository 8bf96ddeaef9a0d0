use Rattle.rela_plan.proofs.Selections.{one_sofar, same_sofar, all_sofar}
use Rattle.rela_plan.proofs.known.asked_one_by_one.Goals as goal

pub loop-place-preserved-then-selects_at : goal.loop-place-preserved-then-selects_at
loop-place-preserved-then-selects_at c =
    one_sofar c.args.block.now c.args.asked c.args.predicate.now c.loop-place.left c.loop-place.flows c.without_flow-left.result c.in-Some.place
    c.requires.few c.in-Some.ensures.place c.in-Some.ensures.member c.without_flow-left.ensures.removed c.without_flow-left.ensures.others
    c.loop-place.invariant c.with_flow-flows.result (λ d inside. (c.selects_at.ensures d inside).0 c.if-selects_at.true)
    c.with_flow-flows.ensures.added c.with_flow-flows.ensures.others

pub loop-place-preserved : goal.loop-place-preserved
loop-place-preserved c =
    same_sofar c.args.block.now c.args.asked c.args.predicate.now c.loop-place.left c.loop-place.flows c.without_flow-left.result c.in-Some.place
    c.requires.few c.in-Some.ensures.place c.in-Some.ensures.member c.without_flow-left.ensures.removed c.without_flow-left.ensures.others
    c.loop-place.invariant (λ d inside selected. let holds = (c.selects_at.ensures d inside).1 selected in cc)

pub returns : goal.returns
returns c =
    all_sofar c.args.block.now c.args.asked c.args.predicate.now c.loop-place.left c.loop-place.flows c.in_default.ensures.none c.loop-place.invariant
