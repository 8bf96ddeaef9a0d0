use Rattle.std.proofs.Common.{◌≡◌, ap, ◌∙◌}
use Rattle.rela_locations.specs.Network.{Group}
use Rattle.rela_locations.specs.Names.{has_name}
use Rattle.rela_locations.specs.Tables.{device_names, interface_names}
use Rattle.rela_locations.proofs.Known.{known_inside, device_names_by_group, interface_names_by_group}
use Rattle.rela_locations.proofs.pairs.interfaces_with_devices.Goals as goal

pub add_interfaces-requires-clause-interfaces : goal.add_interfaces-requires-clause-interfaces
add_interfaces-requires-clause-interfaces c = λ n has.
    let devices : c.as_slice.result.now ≡ c.group-item.result.devices = c.as_slice.ensures ∙ ap (λ (g : Group). g.devices) c.group.view_is in
    c.requires.interfaces n
    (ap (λ names. has_name names n) (interface_names_by_group c.args.groups.now)
    ∙ known_inside (λ (g : Group). interface_names g.devices) c.args.groups.now c.loop-group.group-index c.group-item.result c.loop-group-test.true c.group-item.is n (rw devices at has))

pub add_interfaces-requires-clause-devices : goal.add_interfaces-requires-clause-devices
add_interfaces-requires-clause-devices c = λ n has.
    let devices : c.as_slice.result.now ≡ c.group-item.result.devices = c.as_slice.ensures ∙ ap (λ (g : Group). g.devices) c.group.view_is in
    c.requires.devices n
    (ap (λ names. has_name names n) (device_names_by_group c.args.groups.now)
    ∙ known_inside (λ (g : Group). device_names g.devices) c.args.groups.now c.loop-group.group-index c.group-item.result c.loop-group-test.true c.group-item.is n (rw devices at has))
