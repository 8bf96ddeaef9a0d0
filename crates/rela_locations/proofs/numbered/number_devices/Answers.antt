use Rattle.rela_locations.specs.Network.{Device}
use Rattle.rela_locations.specs.Numbered.{device_of}
use Rattle.rela_locations.proofs.Known.{known_field, known_inside}
use Rattle.rela_locations.proofs.Numbering.{mapped_all, mapped_more}
use Rattle.rela_locations.proofs.numbered.number_devices.Goals as goal

pub number_device-requires-clause-device : goal.number_device-requires-clause-device
number_device-requires-clause-device c =
    c.requires.devices c.device-item.result.name
    (known_field (λ (d : Device). d.name) c.args.devices.now c.loop-device.device-index c.device-item.result c.loop-device-test.true c.device-item.is)

pub number_device-requires-clause-interfaces : goal.number_device-requires-clause-interfaces
number_device-requires-clause-interfaces c = λ n has.
    c.requires.interfaces n
    (known_inside (λ (d : Device). d.interfaces) c.args.devices.now c.loop-device.device-index c.device-item.result c.loop-device-test.true c.device-item.is n has)

pub loop-device-preserved : goal.loop-device-preserved
loop-device-preserved c =
    mapped_more (device_of c.args.alphabets.now) c.args.devices.now c.loop-device.device-index c.device-item.result _ _ _ c.loop-device-test.true c.device-item.is c.loop-device.invariant
    c.in_ok-push.ensures.items c.in_ok-next.ensures

pub returns : goal.returns
returns c = mapped_all (device_of c.args.alphabets.now) _ _ _ c.loop-device-test.false c.loop-device.invariant
