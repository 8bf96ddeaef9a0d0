use Rattle.std.proofs.Common.{ℕ, ◌≤◌, List, length, take, subst, arith}
use Rattle.std.specs.List.{All}
use Rattle.std.proofs.lemmas.List.{take_all}
use Rattle.std.proofs.lemmas.List.Elements.{All-map, All-more}
use Rattle.rela_names.specs.Name.{IsName}
use Rattle.rela_certfile.specs.Layout.{HasBounds, Shape}
use Rattle.rela_certfile.proofs.layout.are_shapes.Goals as goal

all_checks : (checks : List Shape) (n : ℕ) → length checks ≤ n → All (λ (check : Shape). IsName check.name × HasBounds check) (take n checks) → All (λ (check : Shape). IsName check.name × HasBounds check) checks
all_checks checks n past each = subst (λ cs. All (λ (check : Shape). IsName check.name × HasBounds check) cs) (take_all n checks past) each

pub loop-check-preserved : goal.loop-check-preserved
loop-check-preserved c =
    All-more (λ (check : Shape). IsName check.name × HasBounds check) c.args.checks.now c.loop-check.check-index c.check-item.result c.loop-check-test.true c.loop-check.invariant
    (subst (λ (check : Shape). IsName check.name × HasBounds check) c.check-item.is (c.is_shape.ensures.name, c.is_shape.ensures.bounds))

pub returns-clause-named : goal.returns-clause-named
returns-clause-named c =
    All-map IsName (λ (check : Shape). check.name) c.args.checks.now
    (λ k d inside. (all_checks c.args.checks.now c.loop-check.check-index (omega arith) c.loop-check.invariant k d inside).0)

pub returns-clause-bounds : goal.returns-clause-bounds
returns-clause-bounds c = λ k d inside. (all_checks c.args.checks.now c.loop-check.check-index (omega arith) c.loop-check.invariant k d inside).1
