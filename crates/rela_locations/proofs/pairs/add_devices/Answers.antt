use Rattle.rela_locations.specs.Network.{Device}
use Rattle.rela_locations.proofs.Known.{known_field}
use Rattle.rela_locations.proofs.pairs.add_devices.Goals as goal

pub symbol_of-requires : goal.symbol_of-requires
symbol_of-requires c =
    let there = known_field (λ (d : Device). d.name) c.args.entries.now c.loop-device.device-index c.device-item.result c.loop-device-test.true c.device-item.is in
    c.requires c.device.inside.name (rw (← c.device.view_is) at there)
