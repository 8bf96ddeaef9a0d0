use Rattle.std.proofs.Common.{◌+◌, ◌<◌, length, subst, sym}
use Rattle.std.specs.List.{All}
use Rattle.rela_minimise.specs.Refining.{PrecedesNew}
use Rattle.rela_minimise.specs.Stored.{lists_of}
use Rattle.rela_minimise.proofs.OneByOne.{PrecedesOne, list_read, marks_both, new_more}
use Rattle.rela_minimise.proofs.marking.mark_before_new.Goals as goal

pub mark_before-requires-clause-states : goal.mark_before-requires-clause-states
mark_before-requires-clause-states c =
    subst (All (λ q. q < length c.args.predecessors.now))
    (sym (list_read c.args.members.now c.loop-class.class c.index-members-class.result c.deref.result.now c.loop-class-test.true c.index-members-class.is c.deref.ensures.value))
    (c.requires.members c.loop-class.class)

pub loop-class-preserved : goal.loop-class-preserved
loop-class-preserved c =
    marks_both (PrecedesNew (lists_of c.args.predecessors.now) (lists_of c.args.members.now) c.args.first c.loop-class.class) (PrecedesOne (lists_of c.args.predecessors.now) c.deref.result.now)
    (PrecedesNew (lists_of c.args.predecessors.now) (lists_of c.args.members.now) c.args.first (c.loop-class.class + 1)) _ _ _ _ _ _ c.loop-class.invariant c.in_ok-mark_before.ensures
    (new_more (lists_of c.args.predecessors.now) (lists_of c.args.members.now) c.args.first c.loop-class.class c.deref.result.now
    (list_read c.args.members.now c.loop-class.class c.index-members-class.result c.deref.result.now c.loop-class-test.true c.index-members-class.is c.deref.ensures.value))
