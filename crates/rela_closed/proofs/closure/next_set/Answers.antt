use Rattle.std.proofs.Common.{[], ◌∷◌, ◌++◌}
use Rattle.std.specs.List.{Contains}
use Rattle.std.proofs.lemmas.Result.{IfOk-weaker}
use Rattle.rela_closed.specs.Sets.{ReachedBy}
use Rattle.rela_closed.proofs.Walks.{lists_as, set_within}
use Rattle.rela_closed.proofs.closure.next_set.Goals as goal

pub reach_next-requires-clause-states : goal.reach_next-requires-clause-states
reach_next-requires-clause-states g c = set_within c.args.a.now c.start.ensures.automaton c.requires.met.0 c.args.set.now c.requires.met.1.0

pub returns-clause-next : goal.returns-clause-next
returns-clause-next g c =
    IfOk-weaker c.sorted.result _ _
    (λ next is word reached. lists_as (Contains c.reach_next.new.set.states) (ReachedBy c.args.a.now (word ++ c.args.letter ∷ [])) next.items
    (c.in_ok-reach_next.ensures.reached word reached.members) is) c.sorted.ensures.sorted
