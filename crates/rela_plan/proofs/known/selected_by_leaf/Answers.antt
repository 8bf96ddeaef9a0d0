use Rattle.rela_plan.proofs.Selections.{joined, known_more, asked_of}
use Rattle.rela_plan.proofs.known.selected_by_leaf.Goals as goal

pub returns-clause-answer : goal.returns-clause-answer
returns-clause-answer c =
    asked_of c.args.block.now c.args.leaf.now c.find-found.result.asked c.args.asked c.but_not-missing.result c.in_either.result c.in_either-flows.result
    c.in_both.result c.requires.known.few c.but_not-missing.ensures c.in_either.ensures
    (joined c.args.block.now c.args.leaf.now c.find-found.result.asked c.find-found.result.flows c.but_not-missing.result c.asked_one_by_one.result
    c.in_either-flows.result c.in_either.result (c.find-found.ensures.right c.args.block.now c.requires.known) c.asked_one_by_one.ensures
    c.in_either-flows.ensures c.in_either.ensures)
    c.in_both.ensures

pub returns-clause-known : goal.returns-clause-known
returns-clause-known c =
    known_more c.args.block.now c.args.known.now c.find-found.result.place _ c.requires.known
    (joined c.args.block.now c.args.leaf.now c.find-found.result.asked c.find-found.result.flows c.but_not-missing.result c.asked_one_by_one.result
    c.in_either-flows.result c.in_either.result (c.find-found.ensures.right c.args.block.now c.requires.known) c.asked_one_by_one.ensures
    c.in_either-flows.ensures c.in_either.ensures)
