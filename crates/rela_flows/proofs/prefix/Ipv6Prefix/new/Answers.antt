use Rattle.std.proofs.Common.{◌-◌, ◌%◌, ◌^◌, ◌∙◌, ap, refl}
use Rattle.rela_flows.specs.Written.{network_zeros}
use Rattle.rela_flows.proofs.SamePrefix.{only6}
use Rattle.rela_flows.proofs.prefix.Ipv6Prefix.new.Goals as goal

pub returns-clause-exact : goal.returns-clause-exact
returns-clause-exact c = only6 _ c.args.address c.args.length refl c.network_v6.ensures

pub invariant_of-result : goal.invariant_of-result
invariant_of-result c = record {
  address_fits = c.network_v6.type_inv;
  length_fits = c.if-length-gt128.false;
  host_bits_zero = ap (λ k. k % 2 ^ (128 - c.args.length)) c.network_v6.ensures ∙ network_zeros 128 c.args.length c.args.address;
}
