use Rattle.rela_locations.specs.Network.{Device}
use Rattle.rela_locations.proofs.Known.{known_field}
use Rattle.rela_locations.proofs.tags.add_devices.Goals as goal

pub symbol_of-symbol-requires : goal.symbol_of-symbol-requires
symbol_of-symbol-requires c =
    let there = known_field (λ (d : Device). d.name) c.args.entries.now c.loop-device.device-index c.device-item.result c.loop-device-test.true c.device-item.is in
    c.requires c.device.inside.name (rw (← c.device.view_is) at there)
