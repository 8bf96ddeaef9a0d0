use Rattle.std.proofs.Common.{◌-◌, ◌^◌, sym, subst, arith}
use Rattle.rela_prefixes.specs.Leaves.{AreLeaves}
use Rattle.rela_prefixes.proofs.Order.{rising, found_at, longest_at}
use Rattle.rela_prefixes.proofs.table.PrefixTable.longest.Goals as goal

pub place_after-after-requires : goal.place_after-after-requires
place_after-after-requires c =
    let are = subst (AreLeaves c.self.inside.prefixes 0 (2 ^ 32)) (sym c.as_slice-leaves.ensures.value) c.self.invariant in
    rising 0 (2 ^ 32) c.as_slice-leaves.result.now are.adjoin

pub overflow_sub-result : goal.overflow_sub-result
overflow_sub-result c =
    let are = subst (AreLeaves c.self.inside.prefixes 0 (2 ^ 32)) (sym c.as_slice-leaves.ensures.value) c.self.invariant in
    let after = c.place_after-after.ensures in
    let found = found_at (2 ^ 32) c.as_slice-leaves.result.now c.args.address c.place_after-after.result are.adjoin (omega arith) after.within after.parted in
    omega (arith, found.1)

pub returns : goal.returns
returns c =
    let are = subst (AreLeaves c.self.inside.prefixes 0 (2 ^ 32)) (sym c.as_slice-leaves.ensures.value) c.self.invariant in
    let after = c.place_after-after.ensures in
    let found = found_at (2 ^ 32) c.as_slice-leaves.result.now c.args.address c.place_after-after.result are.adjoin (omega arith) after.within after.parted in
    let leaf = c.index-leaves-after.result in
    longest_at _ 0 (2 ^ 32) c.args.address found.0 (c.place_after-after.result - 1) c.as_slice-leaves.result.now leaf (subst (λ ps. AreLeaves ps 0 (2 ^ 32) c.as_slice-leaves.result.now) c.self.view_is are) found.2 (omega (arith, found.1))
