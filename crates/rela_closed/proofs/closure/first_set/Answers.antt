use Rattle.std.proofs.Common.{[]}
use Rattle.std.specs.List.{Contains}
use Rattle.std.proofs.lemmas.Result.{IfOk-weaker}
use Rattle.rela_closed.specs.Sets.{ReachedBy}
use Rattle.rela_closed.proofs.Walks.{lists_as}
use Rattle.rela_closed.proofs.closure.first_set.Goals as goal

pub returns-clause-first : goal.returns-clause-first
returns-clause-first g c =
    IfOk-weaker c.sorted.result _ _ (λ set is. lists_as (Contains c.reach_first.new.set.states) (ReachedBy c.args.a.now []) set.items c.in_ok-reach_first.ensures.reached is) c.sorted.ensures.sorted
