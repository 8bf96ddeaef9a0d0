use Rattle.std.proofs.Common.{codes}
use Rattle.rela_locations.specs.Plain.{entry_of}
use Rattle.rela_locations.proofs.PlainLaws.{device_read, found_is}
use Rattle.rela_locations.proofs.plain_device.device_of.Goals as goal

pub returns-clause-device : goal.returns-clause-device
returns-clause-device c =
    let members = c.args.members.now in
    let name = found_is (codes "name") members _ _ _ c.find.ensures.found c.in_ok-ok_or.ensures.ok_part c.in_ok-text.ensures.text in
    let interfaces = found_is (codes "interfaces") members _ _ _ c.find-2.ensures.found c.in_ok-ok_or-2.ensures.ok_part c.in_ok-texts.ensures.texts in
    rw (c.from_vec.ensures, c.from_vec-2.ensures) (device_read _ _ (entry_of members) _ _ _ _ _ c.in_ok-name.ensures.row name c.in_ok-name.ensures.name c.in_ok-tags.ensures interfaces c.in_ok-interfaces.ensures.names)
