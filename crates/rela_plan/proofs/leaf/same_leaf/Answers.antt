use Rattle.rela_plan.proofs.Leaves.{same_dst_in, same_dst_overlaps, same_src_in, same_src_overlaps}
use Rattle.rela_plan.proofs.leaf.same_leaf.Goals as goal

pub returns-in-DstIn-DstIn : goal.returns-in-DstIn-DstIn
returns-in-DstIn-DstIn c = λ yes.
    same_dst_in c.args.one.now c.args.other.now c.in-DstIn-DstIn.one c.in-DstIn-DstIn.other c.in-DstIn-DstIn.is-0 c.in-DstIn-DstIn.is-1
    (c.same_prefix.ensures yes)

pub returns-in-DstOverlaps-DstOverlaps : goal.returns-in-DstOverlaps-DstOverlaps
returns-in-DstOverlaps-DstOverlaps c = λ yes.
    same_dst_overlaps c.args.one.now c.args.other.now c.in-DstOverlaps-DstOverlaps.one c.in-DstOverlaps-DstOverlaps.other
    c.in-DstOverlaps-DstOverlaps.is-0 c.in-DstOverlaps-DstOverlaps.is-1 (c.same_prefix-in-DstOverlaps-DstOverlaps.ensures yes)

pub returns-in-SrcIn-SrcIn : goal.returns-in-SrcIn-SrcIn
returns-in-SrcIn-SrcIn c = λ yes.
    same_src_in c.args.one.now c.args.other.now c.in-SrcIn-SrcIn.one c.in-SrcIn-SrcIn.other c.in-SrcIn-SrcIn.is-0 c.in-SrcIn-SrcIn.is-1
    (c.same_prefix-in-SrcIn-SrcIn.ensures yes)

pub returns-in-SrcOverlaps-SrcOverlaps : goal.returns-in-SrcOverlaps-SrcOverlaps
returns-in-SrcOverlaps-SrcOverlaps c = λ yes.
    same_src_overlaps c.args.one.now c.args.other.now c.in-SrcOverlaps-SrcOverlaps.one c.in-SrcOverlaps-SrcOverlaps.other
    c.in-SrcOverlaps-SrcOverlaps.is-0 c.in-SrcOverlaps-SrcOverlaps.is-1 (c.same_prefix-in-SrcOverlaps-SrcOverlaps.ensures yes)
