use Rattle.std.proofs.Common.{◌≡◌, ◌++◌, take}
use Rattle.rela_print.specs.Joined.{behind}
use Rattle.rela_print.specs.Printed.{within}
use Rattle.rela_print.specs.SpecTexts.{printed_spec}
use Rattle.rela_print.proofs.specs.+push_spec.Given as goal

abbrev pub invariant-push_parts-loop-part : goal.invariant-push_parts-loop-part
invariant-push_parts-loop-part l = l.out.items ≡ l.initial.out.items ++ behind l.between (λ part. within l.above (printed_spec part)) (take l.part-index l.others)
