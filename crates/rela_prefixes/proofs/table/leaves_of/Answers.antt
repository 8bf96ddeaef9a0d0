use Rattle.rela_prefixes.proofs.Order.{leaves_whole}
use Rattle.rela_prefixes.proofs.table.leaves_of.Goals as goal

pub returns : goal.returns
returns c =
    leaves_whole _ _ _ _ _ _ _ c.new-leaves.ensures.items c.all.ensures.address c.all.ensures.length c.in_ok-listed.ensures c.ranked-inside.ensures.same c.ranked-inside.ensures.ranked c.as_slice.ensures.value
    c.in_ok-push_leaves.ensures
