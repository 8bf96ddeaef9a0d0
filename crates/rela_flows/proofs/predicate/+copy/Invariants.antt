use Rattle.std.proofs.Common.{◌≡◌, take}
use Rattle.rela_flows.proofs.predicate.+copy.Given as goal

abbrev pub invariant-copies-loop-part : goal.invariant-copies-loop-part
invariant-copies-loop-part l = l.copies.items ≡ take l.part-index l.parts
