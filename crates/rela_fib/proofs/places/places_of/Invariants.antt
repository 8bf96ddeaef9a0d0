use Rattle.std.proofs.Common.{take}
use Rattle.rela_fib.proofs.Found.{IsFound}
use Rattle.rela_fib.proofs.places.places_of.Given as goal

abbrev pub invariant-loop-interface : goal.invariant-loop-interface
invariant-loop-interface l = IsFound l.nodes (take l.interface-index l.interfaces) l.places.items
