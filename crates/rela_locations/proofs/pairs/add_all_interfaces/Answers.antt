use Rattle.std.proofs.Common.{◌≡◌, ap, ◌∙◌}
use Rattle.rela_locations.specs.Network.{Device}
use Rattle.rela_locations.proofs.Known.{known_inside}
use Rattle.rela_locations.proofs.pairs.add_all_interfaces.Goals as goal

pub add_each-requires : goal.add_each-requires
add_each-requires c = λ n has.
    let interfaces : c.as_slice.result.now ≡ c.device-item.result.interfaces = c.as_slice.ensures ∙ ap (λ (d : Device). d.interfaces) c.device.view_is in
    c.requires n
    (known_inside (λ (d : Device). d.interfaces) c.args.entries.now c.loop-device.device-index c.device-item.result c.loop-device-test.true c.device-item.is n (rw interfaces at has))
