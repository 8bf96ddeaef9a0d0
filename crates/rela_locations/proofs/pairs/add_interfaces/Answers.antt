use Rattle.std.proofs.Common.{◌≡◌, ap, ◌∙◌}
use Rattle.rela_locations.specs.Network.{Device}
use Rattle.rela_locations.specs.Tables.{index_of, under}
use Rattle.rela_locations.proofs.Known.{known_inside, known_field, added_more}
use Rattle.rela_locations.proofs.pairs.add_interfaces.Goals as goal

pub symbol_of-symbol-requires : goal.symbol_of-symbol-requires
symbol_of-symbol-requires c =
    let there = known_field (λ (d : Device). d.name) c.args.entries.now c.loop-device.device-index c.device-item.result c.loop-device-test.true c.device-item.is in
    c.requires.devices c.device.inside.name (rw (← c.device.view_is) at there)

pub add_each-requires : goal.add_each-requires
add_each-requires c = λ n has.
    let interfaces : c.as_slice.result.now ≡ c.device-item.result.interfaces = c.as_slice.ensures ∙ ap (λ (d : Device). d.interfaces) c.device.view_is in
    c.requires.interfaces n
    (known_inside (λ (d : Device). d.interfaces) c.args.entries.now c.loop-device.device-index c.device-item.result c.loop-device-test.true c.device-item.is n (rw interfaces at has))

pub loop-device-preserved : goal.loop-device-preserved
loop-device-preserved c =
    let interfaces : c.as_slice.result.now ≡ c.device-item.result.interfaces = c.as_slice.ensures ∙ ap (λ (d : Device). d.interfaces) c.device.view_is in
    let name : c.device.inside.name ≡ c.device-item.result.name = ap (λ (d : Device). d.name) c.device.view_is in
    let added = rw (interfaces, c.symbol_of-symbol.ensures, name) at c.in_ok-add_each.ensures in
    added_more (λ (d : Device). under c.args.interfaces.now d.interfaces (index_of c.args.devices.now d.name)) c.args.entries.now c.loop-device.device-index c.device-item.result
    c.args.pairs.now.items c.loop-device.pairs.items _ c.loop-device-test.true c.device-item.is c.loop-device.invariant added
