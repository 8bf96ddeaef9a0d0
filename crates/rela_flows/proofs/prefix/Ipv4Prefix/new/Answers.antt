use Rattle.std.proofs.Common.{refl}
use Rattle.rela_flows.proofs.SamePrefix.{only4}
use Rattle.rela_flows.proofs.prefix.Ipv4Prefix.new.Goals as goal

pub returns-clause-exact : goal.returns-clause-exact
returns-clause-exact c = only4 _ c.args.address c.args.length refl c.network_v4.ensures
