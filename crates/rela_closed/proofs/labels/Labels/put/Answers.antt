use Rattle.std.proofs.Common.{map, refl, subst}
use Rattle.rela_closed.specs.Splitting.{IsMore, Sorted}
use Rattle.rela_closed.proofs.Readers.{map_pushed}
use Rattle.rela_closed.proofs.SortedOut.{more_other, sorted_other}
use Rattle.rela_closed.proofs.labels.Labels.put.Goals as goal

pub returns-in_default-clause-more : goal.returns-in_default-clause-more
returns-in_default-clause-more g c = λ over.
    let letters = g.L.LabelSet.letters in
    let old : Sorted = record { alone = letters c.self.inside.alone; others = map (λ label. letters label.now) c.self.inside.others.items } in
    let new : Sorted = record { alone = letters c.self.inside.alone; others = map (λ label. letters label.now) c.push.new.self.items } in
    subst (λ s. IsMore over s new) c.self.view_is
    (more_other over old new (letters c.args.label.now) refl (map_pushed (λ label. letters label.now) c.self.inside.others.items c.push.new.self.items c.args.label c.in_ok-push.ensures.items))

pub returns-in_default-clause-sorted : goal.returns-in_default-clause-sorted
returns-in_default-clause-sorted g c = λ over.
    let letters = g.L.LabelSet.letters in
    let old : Sorted = record { alone = letters c.self.inside.alone; others = map (λ label. letters label.now) c.self.inside.others.items } in
    let new : Sorted = record { alone = letters c.self.inside.alone; others = map (λ label. letters label.now) c.push.new.self.items } in
    sorted_other over old new (letters c.args.label.now) refl (map_pushed (λ label. letters label.now) c.self.inside.others.items c.push.new.self.items c.args.label c.in_ok-push.ensures.items)
