use Rattle.rela_flows.proofs.Apart.{apart4, apart6}
use Rattle.rela_flows.proofs.laws.prefixes_of_one_length_are_apart.Goals as goal

pub returns : goal.returns
returns c = record { ipv4 = apart4; ipv6 = apart6 }
