use Rattle.rela_locations.proofs.PlainLaws.{group_read}
use Rattle.rela_locations.proofs.plain.read_group.Goals as goal

pub returns-clause-group : goal.returns-clause-group
returns-clause-group c =
    rw c.from_vec.ensures (group_read _ _ _ _ _ _ _ _ _ _ c.what_holds.ensures.object c.what_holds.ensures.deeper c.in_ok-name.ensures.row c.in_ok-name.ensures.name c.in_ok-text.ensures.group c.in_ok-devices.ensures.devices
    c.in_ok-close_object.ensures.brace)
