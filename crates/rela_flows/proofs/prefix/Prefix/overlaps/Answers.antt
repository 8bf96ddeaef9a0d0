use Rattle.rela_flows.proofs.PrefixSets.{overlaps4, overlaps6}
use Rattle.rela_flows.proofs.prefix.Prefix.overlaps.Goals as goal

pub returns-in-V4-V4 : goal.returns-in-V4-V4
returns-in-V4-V4 c =
    overlaps4 _ _ c.in-V4-V4.one c.in-V4-V4.two c.in-V4-V4.is-0 c.in-V4-V4.is-1 _ _ _ c.min-bits.ensures c.leading_v4.ensures c.leading_v4-in-V4-V4.ensures

pub returns-in-V6-V6 : goal.returns-in-V6-V6
returns-in-V6-V6 c =
    overlaps6 _ _ c.in-V6-V6.one c.in-V6-V6.two c.in-V6-V6.is-0 c.in-V6-V6.is-1 _ _ _ c.min-bits-in-V6-V6.ensures c.leading_v6.ensures c.leading_v6-in-V6-V6.ensures
