use Rattle.rela_plan.proofs.Selections.{known_at}
use Rattle.rela_plan.proofs.known.find.Goals as goal

pub returns-in_default-clause-right : goal.returns-in_default-clause-right
returns-in_default-clause-right c = λ block are. c.new_at.ensures.right block c.args.leaf.now

pub returns-then-same_leaf-clause-right : goal.returns-then-same_leaf-clause-right
returns-then-same_leaf-clause-right c = λ block are.
    known_at block c.args.known.now c.loop.place _ c.in-Some.one c.args.leaf.now are c.loop.invariant c.in-Some.is (c.same_leaf.ensures c.if-same_leaf.true)

pub returns-clause-right : goal.returns-clause-right
returns-clause-right c = λ block are. c.new_at-2.ensures.right block c.args.leaf.now
