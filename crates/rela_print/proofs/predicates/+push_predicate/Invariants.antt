use Rattle.std.proofs.Common.{◌≡◌, ◌++◌, take}
use Rattle.rela_print.specs.Joined.{behind}
use Rattle.rela_print.specs.Printed.{within}
use Rattle.rela_print.specs.PredicateTexts.{printed_predicate}
use Rattle.rela_print.proofs.predicates.+push_predicate.Given as goal

abbrev pub invariant-push_parts-loop-part : goal.invariant-push_parts-loop-part
invariant-push_parts-loop-part l = l.out.items ≡ l.initial.out.items ++ behind l.between (λ part. within l.above (printed_predicate part)) (take l.part-index l.others)
