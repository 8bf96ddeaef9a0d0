use Rattle.std.proofs.Common.{ap, ◌∙◌}
use Rattle.rela_locations.specs.Names.{has_name}
use Rattle.rela_locations.specs.Network.{Group}
use Rattle.rela_locations.specs.Numbered.{named}
use Rattle.rela_locations.proofs.Numbering.{named_at, same_group}
use Rattle.rela_locations.proofs.numbered.number_group.Goals as goal

pub returns : goal.returns
returns c =
    let groups = c.args.alphabets.now.groups in
    let known = ap (λ (g : Group). has_name groups g.name) c.group.view_is ∙ c.requires.group in
    let name = ap (named groups) c.symbol_of-symbol.ensures ∙ named_at groups c.group.inside.name known ∙ ap (λ (g : Group). g.name) c.group.view_is in
    let devices = c.in_ok-devices.ensures ∙ c.as_slice.ensures ∙ ap (λ (g : Group). g.devices) c.group.view_is in
    same_group _ _ name devices
