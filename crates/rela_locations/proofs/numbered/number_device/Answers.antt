use Rattle.std.proofs.Common.{ap, ◌∙◌}
use Rattle.rela_locations.specs.Names.{has_name}
use Rattle.rela_locations.specs.Network.{Device}
use Rattle.rela_locations.specs.Numbered.{named}
use Rattle.rela_locations.proofs.Numbering.{named_at, same_device}
use Rattle.rela_locations.proofs.numbered.number_device.Goals as goal

pub returns : goal.returns
returns c =
    let devices = c.args.alphabets.now.devices in
    let known = ap (λ (d : Device). has_name devices d.name) c.device.view_is ∙ c.requires.device in
    let name = ap (named devices) c.symbol_of-symbol.ensures ∙ named_at devices c.device.inside.name known ∙ ap (λ (d : Device). d.name) c.device.view_is in
    let tags = c.from_vec.ensures ∙ c.in_ok-tags.ensures ∙ c.as_slice.ensures ∙ ap (λ (d : Device). d.tags) c.device.view_is in
    let interfaces = c.in_ok-interfaces.ensures ∙ c.as_slice-names.ensures ∙ ap (λ (d : Device). d.interfaces) c.device.view_is in
    same_device _ _ name tags interfaces
