use Rattle.rela_names.proofs.Ascending.{ascending_from_keys}
use Rattle.rela_names.proofs.name_order.ascending_when_keys.Goals as goal

pub returns : goal.returns
returns c = ascending_from_keys c.args.names.now c.requires
