use Rattle.rela_locations.proofs.Known.{known_item}
use Rattle.rela_locations.proofs.pairs.add_each.Goals as goal

pub symbol_near-symbol-requires : goal.symbol_near-symbol-requires
symbol_near-symbol-requires c = c.requires c.name-item.result (known_item c.args.names.now c.loop-name.name-index c.name-item.result c.loop-name-test.true c.name-item.is)
