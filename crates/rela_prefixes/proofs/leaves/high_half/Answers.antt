use Rattle.std.proofs.Common.{◌≡◌, ◌+◌, ◌%◌, sym, subst, arith}
use Rattle.rela_prefixes.proofs.Cells.{size, middle_zeros, middle_fits}
use Rattle.rela_prefixes.proofs.leaves.high_half.Goals as goal

pub overflow_add-result : goal.overflow_add-result
overflow_add-result c = omega (arith, middle_fits c.args.cell.now c.requires)

pub invariant_of-result : goal.invariant_of-result
invariant_of-result c = record {
  address_fits = omega (arith, middle_fits c.args.cell.now c.requires);
  length_fits = omega arith;
  host_bits_zero = subst (λ h. (c.args.cell.now.address + h) % size (c.args.cell.now.length + 1) ≡ 0) (sym c.half.ensures) (middle_zeros c.args.cell.now c.requires);
}
