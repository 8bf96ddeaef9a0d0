use Rattle.std.proofs.Common.{take}
use Rattle.rela_fib.specs.Steps.{AreDevicesAt}
use Rattle.rela_fib.proofs.devices.devices_at.Given as goal

abbrev pub invariant-loop-name : goal.invariant-loop-name
invariant-loop-name l = AreDevicesAt l.tables l.nodes (take l.name-index l.names) l.devices.items
