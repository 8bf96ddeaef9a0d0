use Rattle.std.proofs.Common.{refl, ◌∙◌}
use Rattle.rela_labels.proofs.ApartBlocks.{fresh}
use Rattle.rela_labels.proofs.partition.Partition.fresh.Goals as goal

pub invariant_of-result : goal.invariant_of-result
invariant_of-result c =
    (fresh c.args.blocks.items c.args.least.items c.in_ok-base.base.value c.in_ok-shared.shared _ _ _ c.in_ok-first.first.items _ c.deref.result.now
    c.len.result c.requires c.in_ok-base.ensures.ok c.in_ok-shared.ensures.blocks c.in_ok-shared.ensures.first c.in_ok-first.ensures.items
    c.deref.ensures.value refl c.in_ok-shared.ensures.linked c.new-3.ensures.items c.new-4.ensures.items (c.len.ensures ∙ c.args.least.ok.0)
    c.in_ok-numbers.ensures.len c.in_ok-numbers.ensures.each).layered

pub returns : goal.returns
returns c =
    (fresh c.args.blocks.items c.args.least.items c.in_ok-base.base.value c.in_ok-shared.shared _ _ _ c.in_ok-first.first.items c.args.least.items
    c.deref.result.now c.len.result c.requires c.in_ok-base.ensures.ok c.in_ok-shared.ensures.blocks c.in_ok-shared.ensures.first c.in_ok-first.ensures.items
    c.deref.ensures.value refl c.in_ok-shared.ensures.linked c.new-3.ensures.items c.new-4.ensures.items (c.len.ensures ∙ c.args.least.ok.0)
    c.in_ok-numbers.ensures.len c.in_ok-numbers.ensures.each).shown
