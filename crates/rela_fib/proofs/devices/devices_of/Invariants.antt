use Rattle.std.proofs.Common.{◌≡◌, take}
use Rattle.rela_tables.specs.Distinct.{devices_of}
use Rattle.rela_fib.proofs.devices.devices_of.Given as goal

abbrev pub invariant-loop-table : goal.invariant-loop-table
invariant-loop-table l = l.devices.keys ≡ devices_of (take l.table-index l.tables)
