use Rattle.rela_locations.proofs.PlainLaws.{file_read}
use Rattle.rela_locations.proofs.plain.read_plain.Goals as goal

pub returns-clause-network : goal.returns-clause-network
returns-clause-network c =
    file_read _ _ _ _ _ _ _ _ _ c.what_holds.ensures.object c.what_holds.ensures.text c.what_holds.ensures.deeper c.in-Ok.ensures.cases c.new-reader.ensures c.in_ok-open_groups.ensures
    c.new-seen.ensures.groups c.new-seen.ensures.devices c.new-seen.ensures.interfaces c.in_ok-groups.ensures.groups c.in_ok-close_text.ensures.brace

pub returns-clause-groups : goal.returns-clause-groups
returns-clause-groups c = rw c.new-seen.ensures.groups at c.in_ok-groups.ensures.seen_groups

pub returns-clause-devices : goal.returns-clause-devices
returns-clause-devices c = rw c.new-seen.ensures.devices at c.in_ok-groups.ensures.seen_devices

pub returns-clause-interfaces : goal.returns-clause-interfaces
returns-clause-interfaces c = rw c.new-seen.ensures.interfaces at c.in_ok-groups.ensures.seen_interfaces
