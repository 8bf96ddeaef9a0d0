use Rattle.std.proofs.Common.{◌≡◌, ap, ◌∙◌}
use Rattle.rela_locations.specs.Network.{Group}
use Rattle.rela_locations.specs.Names.{has_name}
use Rattle.rela_locations.specs.Tables.{device_names}
use Rattle.rela_locations.proofs.Known.{known_inside, device_names_by_group}
use Rattle.rela_locations.proofs.tags.tagged_devices.Goals as goal

pub add_devices-requires : goal.add_devices-requires
add_devices-requires c = λ n has.
    let devices : c.as_slice.result.now ≡ c.group-item.result.devices = c.as_slice.ensures ∙ ap (λ (g : Group). g.devices) c.group.view_is in
    c.requires n
    (ap (λ names. has_name names n) (device_names_by_group c.args.groups.now)
    ∙ known_inside (λ (g : Group). device_names g.devices) c.args.groups.now c.loop-group.group-index c.group-item.result c.loop-group-test.true c.group-item.is n (rw devices at has))
