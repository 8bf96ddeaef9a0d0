use Rattle.rela_pairs.proofs.Stamps.{zero_stamps}
use Rattle.rela_pairs.proofs.marks.Marks.new.Goals as goal

pub returns : goal.returns
returns c = zero_stamps c.in_ok-stamps.stamps.items c.args.bound (c.in_ok-stamps.ensures.items_if_clones_equal (λ y same. same))
