use Rattle.std.proofs.Common.{◌∙◌, sym, refl}
use Rattle.rela_prefixes.proofs.Halving.{IsLowHalf, IsHighHalf, leaf_added, halves_added, short_when}
use Rattle.rela_prefixes.proofs.leaves.+push_leaves.Goals as goal

pub returns-then-is_uncut : goal.returns-then-is_uncut
returns-then-is_uncut t c =
    leaf_added _ _ _ _ c.split-parts.result _ _ (c.split-parts.ensures c.args.cell refl (sym c.middle_of-middle.ensures)) c.or-longest.ensures (sym c.is_uncut.ensures ∙ c.if-is_uncut.true) c.in_ok-push.ensures.items

pub returns : goal.returns
returns t c =
    let cut = sym c.is_uncut.ensures ∙ c.if-is_uncut.false in
    let short = short_when c.args.cell.length _ c.args.cell.length_fits cut in
    let low : IsLowHalf c.args.cell c.low_half.result = record { short = short; address = c.low_half.ensures.address; length_is = c.low_half.ensures.length } in
    let high : IsHighHalf c.args.cell c.high_half.result = record { short = short; address = c.high_half.ensures.address; length_is = c.high_half.ensures.length } in
    halves_added _ _ _ _ _ _ c.split-parts.result _ _ _ (c.split-parts.ensures c.args.cell refl (sym c.middle_of-middle.ensures)) c.or-longest.ensures cut low high c.in_ok-push_leaves.ensures c.in_ok-push_leaves-2.ensures
