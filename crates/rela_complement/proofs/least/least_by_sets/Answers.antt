use Rattle.std.proofs.Common.{◌+◌}
use Rattle.rela_complement.proofs.LeastComplements.{least}
use Rattle.rela_complement.proofs.ReducedParts.{sets_of_told}
use Rattle.rela_complement.proofs.least.least_by_sets.Goals as goal

pub returns-clause-least : goal.returns-clause-least
returns-clause-least c =
    least c.args.over.now c.args.a.now c.in_ok-sets.sets c.in_ok-least.least c.in_ok-sets.ensures.over c.in_ok-least.ensures.over
    c.in_ok-sets.ensures.language c.in_ok-sets.ensures.sets c.in_ok-sets.ensures.apart c.in_ok-least.ensures.language c.in_ok-least.ensures.classes

pub returns-clause-within : goal.returns-clause-within
returns-clause-within c = λ told. c.in_ok-sets.ensures.told_apart (sets_of_told c.args.a.now c.args.over.now (c.args.limit + 1) told)
