use Rattle.std.proofs.Common.{map}
use Rattle.rela_closed.proofs.Accepting.{accepted_by, met_by}
use Rattle.rela_closed.proofs.Listed.{all_met_by, closed_by, left_by}
use Rattle.rela_closed.proofs.following.follow_by.Goals as goal

pub is_closed-requires : goal.is_closed-requires
is_closed-requires g c = all_met_by _ _ _ _ _ c.in_ok-numbers.ensures.same c.in_ok-numbers.ensures.listed

pub returns-then-not-branch-clause-open_list : goal.returns-then-not-branch-clause-open_list
returns-then-not-branch-clause-open_list g c =
    left_by _ _ _ _ _ _ _ c.requires.reads c.in_ok-numbers.ensures.same c.in_ok-numbers.ensures.listed (c.in_ok-is_closed.ensures.left c.if-not-branch.true)

pub accepting-requires-clause-met : goal.accepting-requires-clause-met
accepting-requires-clause-met g c = met_by _ _ _ _ _ _ c.requires.reads (c.in_ok-is_closed.ensures.kept c.if-not-branch.false) c.in_ok-numbers.ensures.listed

pub returns-clause-closed : goal.returns-clause-closed
returns-clause-closed g c =
    closed_by _ _ _ _ _ _ _ c.requires.reads c.in_ok-numbers.ensures.same c.in_ok-numbers.ensures.listed (c.in_ok-is_closed.ensures.closed c.if-not-branch.false)

pub returns-clause-accepted : goal.returns-clause-accepted
returns-clause-accepted g c =
    accepted_by _ _ _ _ _ _ _ (map (λ flags. flags.items) c.in_ok-accepted.accepted.items) c.requires.reads (c.in_ok-is_closed.ensures.kept c.if-not-branch.false) c.deref.ensures.value
    c.in_ok-numbers.ensures.listed c.in_ok-accepted.ensures
