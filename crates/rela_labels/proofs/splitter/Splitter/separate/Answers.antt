use Rattle.rela_labels.proofs.MovedKeys.{split_in_place}
use Rattle.rela_labels.proofs.splitter.Splitter.separate.Goals as goal

pub returns-clause-split : goal.returns-clause-split
returns-clause-split c =
    split_in_place c.self.inside.keys _ _ _ _ c.args.members.now c.self.inside.moved.items _ _ c.self.invariant c.self.view_is
    c.deref.ensures.value c.deref_mut.ensures.value c.deref-2.ensures.value c.move_members.auto.keys c.deref_mut.ensures.len
    c.give_keys.ensures.fresh c.in_ok-give_keys.ensures.given c.move_members.ensures
