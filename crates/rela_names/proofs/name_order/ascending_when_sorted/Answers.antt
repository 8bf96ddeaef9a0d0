use Rattle.rela_names.proofs.Ascending.{ascending_from_sorted}
use Rattle.rela_names.proofs.name_order.ascending_when_sorted.Goals as goal

pub returns : goal.returns
returns c = ascending_from_sorted c.args.names.now c.requires.sorted c.requires.distinct
