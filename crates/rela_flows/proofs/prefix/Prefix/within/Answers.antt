use Rattle.std.proofs.Common.{refl}
use Rattle.rela_flows.proofs.PrefixSets.{within4, within6, longer4, longer6, apart4, apart6, neither}
use Rattle.rela_flows.proofs.prefix.Prefix.within.Goals as goal

pub returns-then-outer-inner : goal.returns-then-outer-inner
returns-then-outer-inner c =
    within4 _ _ c.in-V4-V4.inner c.in-V4-V4.outer c.in-V4-V4.is-0 c.in-V4-V4.is-1 c.if-outer-inner.true _ _ c.leading_v4.ensures c.leading_v4-then-outer-inner.ensures

pub returns-else-outer-inner : goal.returns-else-outer-inner
returns-else-outer-inner c =
    longer4 _ _ c.in-V4-V4.inner c.in-V4-V4.outer c.in-V4-V4.is-0 c.in-V4-V4.is-1 c.if-outer-inner.false

pub returns-then-outer-inner-2 : goal.returns-then-outer-inner-2
returns-then-outer-inner-2 c =
    within6 _ _ c.in-V6-V6.inner c.in-V6-V6.outer c.in-V6-V6.is-0 c.in-V6-V6.is-1 c.if-outer-inner-2.true _ _ c.leading_v6.ensures c.leading_v6-then-outer-inner-2.ensures

pub returns-else-outer-inner-2 : goal.returns-else-outer-inner-2
returns-else-outer-inner-2 c =
    longer6 _ _ c.in-V6-V6.inner c.in-V6-V6.outer c.in-V6-V6.is-0 c.in-V6-V6.is-1 c.if-outer-inner-2.false

pub returns-in-V4-V6 : goal.returns-in-V4-V6
returns-in-V4-V6 c = neither _ _ refl (apart4 _ _ _ _ c.in-V4-V6.is-0 c.in-V4-V6.is-1)

pub returns-in-V6-V4 : goal.returns-in-V6-V4
returns-in-V6-V4 c = neither _ _ refl (apart6 _ _ _ _ c.in-V6-V4.is-0 c.in-V6-V4.is-1)
