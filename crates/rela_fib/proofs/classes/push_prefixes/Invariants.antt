use Rattle.std.proofs.Common.{◌≡◌, ◌++◌, take}
use Rattle.rela_fib.specs.Prefixes.{prefixes_in}
use Rattle.rela_fib.proofs.classes.push_prefixes.Given as goal

abbrev pub invariant-loop-table : goal.invariant-loop-table
invariant-loop-table l = l.prefixes.items ≡ l.initial.prefixes.items ++ prefixes_in (take l.table-index l.tables)
