use Rattle.std.proofs.Common.{◌+◌, ◌≤◌, arith}
use Rattle.rela_complement.proofs.ReducedParts.{fewer_told}
use Rattle.rela_complement.proofs.least.least_over.Goals as goal

pub returns-in-Ok-clause-within : goal.returns-in-Ok-clause-within
returns-in-Ok-clause-within c told =
    let few = c.states-few.result in
    let below : few + 1 ≤ c.args.limit + 1 = omega (arith, c.if-limit-few.false) in
    c.in-Ok.ensures.within (fewer_told c.args.a.now c.args.over.now (few + 1) (c.args.limit + 1) below told)
