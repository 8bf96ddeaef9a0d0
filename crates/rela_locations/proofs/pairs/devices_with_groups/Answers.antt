use Rattle.std.proofs.Common.{◌≡◌, [], ap, ◌∙◌}
use Rattle.rela_locations.specs.Network.{Group}
use Rattle.rela_locations.specs.Tables.{index_of, under, device_names}
use Rattle.rela_locations.specs.Names.{has_name}
use Rattle.rela_locations.proofs.Known.{known_inside, known_field, added_more, device_names_by_group}
use Rattle.rela_locations.proofs.pairs.devices_with_groups.Goals as goal

pub symbol_of-symbol-requires : goal.symbol_of-symbol-requires
symbol_of-symbol-requires c =
    let there = known_field (λ (g : Group). g.name) c.args.groups.now c.loop-group.group-index c.group-item.result c.loop-group-test.true c.group-item.is in
    c.requires.groups c.group.inside.name (rw (← c.group.view_is) at there)

pub add_devices-requires : goal.add_devices-requires
add_devices-requires c = λ n has.
    let devices : c.as_slice.result.now ≡ c.group-item.result.devices = c.as_slice.ensures ∙ ap (λ (g : Group). g.devices) c.group.view_is in
    c.requires.devices n
    (ap (λ names. has_name names n) (device_names_by_group c.args.groups.now)
    ∙ known_inside (λ (g : Group). device_names g.devices) c.args.groups.now c.loop-group.group-index c.group-item.result c.loop-group-test.true c.group-item.is n (rw devices at has))

pub loop-group-preserved : goal.loop-group-preserved
loop-group-preserved c =
    let devices : c.as_slice.result.now ≡ c.group-item.result.devices = c.as_slice.ensures ∙ ap (λ (g : Group). g.devices) c.group.view_is in
    let name : c.group.inside.name ≡ c.group-item.result.name = ap (λ (g : Group). g.name) c.group.view_is in
    let added = rw (devices, c.symbol_of-symbol.ensures, name) at c.in_ok-add_devices.ensures in
    added_more (λ (g : Group). under c.args.alphabets.now.devices (device_names g.devices) (index_of c.args.alphabets.now.groups g.name)) c.args.groups.now c.loop-group.group-index c.group-item.result
    [] c.loop-group.pairs.items _ c.loop-group-test.true c.group-item.is c.loop-group.invariant added
