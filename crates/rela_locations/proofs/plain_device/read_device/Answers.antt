use Rattle.rela_locations.proofs.PlainLaws.{device_kept}
use Rattle.rela_locations.proofs.plain_device.read_device.Goals as goal

pub returns-clause-device : goal.returns-clause-device
returns-clause-device c = device_kept _ _ _ _ _ _ _ c.as_slice.ensures.value c.in_ok-members.ensures.members c.device_of.ensures.device
