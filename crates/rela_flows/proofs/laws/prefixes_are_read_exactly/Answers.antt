use Rattle.rela_flows.proofs.WrittenTexts.{prefix_is}
use Rattle.rela_flows.proofs.laws.prefixes_are_read_exactly.Goals as goal

pub returns : goal.returns
returns c = prefix_is
