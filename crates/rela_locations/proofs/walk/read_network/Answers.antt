use Rattle.std.proofs.Common.{arith}
use Rattle.std.proofs.lemmas.Grind.{common_steps}
use Rattle.rela_locations.proofs.walk.read_network.Goals as goal

pub returns-clause-groups : goal.returns-clause-groups
returns-clause-groups c = rw c.new-seen.ensures.groups at c.in_ok-groups-2.ensures.seen_groups

pub returns-clause-devices : goal.returns-clause-devices
returns-clause-devices c = rw c.new-seen.ensures.devices at c.in_ok-groups-2.ensures.seen_devices

pub returns-clause-interfaces : goal.returns-clause-interfaces
returns-clause-interfaces c = rw c.new-seen.ensures.interfaces at c.in_ok-groups-2.ensures.seen_interfaces

pub returns-clause-network : goal.returns-clause-network
returns-clause-network c =
    let loaded = rw (c.new-seen.ensures.groups, c.new-seen.ensures.devices, c.new-seen.ensures.interfaces) at c.in_ok-groups-2.ensures.groups in
    grind (arith, common_steps, loaded)

pub returns-in_err-groups-2-clause-fault : goal.returns-in_err-groups-2-clause-fault
returns-in_err-groups-2-clause-fault c =
    let refused = rw (c.new-seen.ensures.groups, c.new-seen.ensures.devices, c.new-seen.ensures.interfaces) at c.in_err-groups-2.ensures.fault in
    grind (arith, common_steps, refused)
