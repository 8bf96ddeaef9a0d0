use Rattle.std.proofs.Common.{arith}
use Rattle.rela_prefixes.proofs.Cells.{first_zeros}
use Rattle.rela_prefixes.proofs.leaves.low_half.Goals as goal

pub invariant_of-result : goal.invariant_of-result
invariant_of-result c = record {
  address_fits = c.args.cell.now.address_fits;
  length_fits = omega arith;
  host_bits_zero = first_zeros c.args.cell.now c.requires;
}
