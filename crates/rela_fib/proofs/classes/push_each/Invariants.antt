use Rattle.std.proofs.Common.{◌≡◌, ◌++◌, take}
use Rattle.rela_fib.specs.Prefixes.{prefixes_of}
use Rattle.rela_fib.proofs.classes.push_each.Given as goal

abbrev pub invariant-loop-route : goal.invariant-loop-route
invariant-loop-route l = l.prefixes.items ≡ l.initial.prefixes.items ++ prefixes_of (take l.route-index l.routes)
