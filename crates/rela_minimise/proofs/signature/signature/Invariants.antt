use Rattle.std.proofs.Common.{◌≡◌, take}
use Rattle.rela_minimise.specs.Refining.{signature}
use Rattle.rela_minimise.specs.Stored.{lists_of}
use Rattle.rela_minimise.proofs.signature.signature.Given as goal

abbrev pub invariant-loop-column : goal.invariant-loop-column
invariant-loop-column g l = l.signed.items ≡ signature l.dfa (lists_of (take l.column-index l.columns)) l.classes l.q
